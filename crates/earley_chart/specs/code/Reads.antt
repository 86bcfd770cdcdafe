-- Where words lead: between the places of a line, and past its end where the line goes on.
use Rattle.std.specs.Prelude.{ℕ, ◌≡◌, ◌≢◌, ◌≤◌, ◌+◌, ◌⊎◌, ◌++◌, Bool, true, [], length, slice_range}
use Rattle.grammar_tree.specs.Derives.{Words}

-- the words lead from place i to place j; the place behind the last one stands for all that may follow
pub data Reads (ws : Words) (goes_on : Bool) : ℕ → Words → ℕ → Type 0 where
  -- the words between two places
  between : {i : ℕ} {us : Words} {j : ℕ} → i ≤ j → j ≤ length ws → us ≡ slice_range ws i j → Reads ws goes_on i us j
  -- the words from a place to the end, and at least one more
  past : {i : ℕ} {us : Words} {j : ℕ} (more : Words) → goes_on ≡ true → i ≤ length ws → j ≡ length ws + 1 → more ≢ [] →
      us ≡ slice_range ws i (length ws) ++ more → Reads ws goes_on i us j
  -- any words, once the end is passed
  beyond : {i : ℕ} {us : Words} {j : ℕ} → goes_on ≡ true → i ≡ length ws + 1 → j ≡ length ws + 1 → Reads ws goes_on i us j

abbrev pub IsPlace : Words → Bool → ℕ → Type 0
IsPlace ws goes_on i = (i ≤ length ws) ⊎ ((goes_on ≡ true) × (i ≡ length ws + 1))
