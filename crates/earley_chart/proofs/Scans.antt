-- Where words lead from a place: what the scanner's tests say.
use Rattle.std.proofs.Common.{Bool, true, false, ℕ, ◌+◌, ◌-◌, ◌<◌, ◌≤◌, ◌≡◌, ◌≢◌, ◌⊎◌, inl, inr, List, [], ◌∷◌, ◌++◌, length, refl, sym, ap, ◌∙◌, subst, ⊎_elim, arith, length-append, append-nil}
use Rattle.std.specs.Prelude.{slice_range, if◌then◌else◌}
use Rattle.std.proofs.lemmas.Bool.{cases_lt}
use Rattle.grammar_tree.specs.Derives.{Words}
use Rattle.grammar_tree.proofs.Spans.{span_cut, span_join, span_length}
use Rattle.earley_chart.specs.code.Reads.{Reads, between, past, beyond, IsPlace}
use Rattle.earley_chart.proofs.ReadLaws.{reads_on, reads_to}

nothing : (ws : Words) → length ws ≡ 0 → ws ≡ []
nothing [] e = refl
nothing (w ∷ ws) e = absurd (omega (arith, e))

-- the first words begin with the others
abbrev pub Begin : Words → Words → Type 0
Begin words front = (rest : Words) × (words ≡ front ++ rest)

module _ (ws : Words) (goes_on : Bool) where
  -- past the end every word leads to where it stands
  pub scan_past : (i : ℕ) (us : Words) (j : ℕ) → length ws < i → IsPlace ws goes_on i → (j ≡ i → Reads ws goes_on i us j) × (Reads ws goes_on i us j → j ≡ i)
  scan_past i us j lt place = (back place, there)
    where
      back : IsPlace ws goes_on i → j ≡ i → Reads ws goes_on i us j
      back (inl le) same = absurd (omega (arith, lt, le))
      back (inr at) same = beyond at.0 at.1 (same ∙ at.1)

      there : Reads ws goes_on i us j → j ≡ i
      there (between le within e) = absurd (omega (arith, lt, le, within))
      there (past more on le same some e) = absurd (omega (arith, lt, le))
      there (beyond on here last) = last ∙ sym here

  -- a token that stands there leads behind it
  pub scan_within : (i : ℕ) (us : Words) (j : ℕ) → i ≤ length ws → Begin (slice_range ws i (length ws)) us →
      (j ≡ i + length us → Reads ws goes_on i us j) × (Reads ws goes_on i us j → j ≡ i + length us)
  scan_within i us j le begins = (back, there)
    where
      back : j ≡ i + length us → Reads ws goes_on i us j
      back same =
          let c = span_cut ws i (length ws) us begins.0 le (omega arith) begins.1 in
          subst (λ k. Reads ws goes_on i us k) (sym (same ∙ c.size)) (between c.after c.before c.is_front)

      there : Reads ws goes_on i us j → j ≡ i + length us
      there (between le' within e) = omega (arith, ap length e, span_length ws i j le' within, le')
      there (past more on le' same some e) =
          let long : length us ≡ length (slice_range ws i (length ws)) + length more = ap length e ∙ length-append (slice_range ws i (length ws)) more in
          let short : length (slice_range ws i (length ws)) ≡ length us + length begins.0 = ap length begins.1 ∙ length-append us begins.0 in
          absurd (some (nothing more (omega (arith, long, short))))
      there (beyond on here last) = absurd (omega (arith, le, here))

  -- a token that the line breaks off leads past the end
  pub scan_on : (i : ℕ) (us : Words) (j : ℕ) → i ≤ length ws → goes_on ≡ true → (Begin (slice_range ws i (length ws)) us → ⊥) → Begin us (slice_range ws i (length ws)) →
      (j ≡ length ws + 1 → Reads ws goes_on i us j) × (Reads ws goes_on i us j → j ≡ length ws + 1)
  scan_on i us j le on fresh begins = (back, there)
    where
      back : j ≡ length ws + 1 → Reads ws goes_on i us j
      back same = past begins.0 on le same
          (λ z. fresh ([], sym (append-nil us ∙ begins.1 ∙ ap (λ l. slice_range ws i (length ws) ++ l) z ∙ append-nil (slice_range ws i (length ws))))) begins.1

      there : Reads ws goes_on i us j → j ≡ length ws + 1
      there (between le' within e) =
          absurd (fresh (slice_range ws j (length ws), span_join ws i j (length ws) le' within ∙ ap (λ l. l ++ slice_range ws j (length ws)) (sym e)))
      there (past more on' le' same some e) = same
      there (beyond on' here last) = absurd (omega (arith, le, here))

  -- another token leads nowhere
  pub scan_none : (i : ℕ) (us : Words) (j : ℕ) → i ≤ length ws → (Begin (slice_range ws i (length ws)) us → ⊥) →
      (goes_on ≡ true → Begin us (slice_range ws i (length ws)) → ⊥) → Reads ws goes_on i us j → ⊥
  scan_none i us j le fresh short (between le' within e) =
      fresh (slice_range ws j (length ws), span_join ws i j (length ws) le' within ∙ ap (λ l. l ++ slice_range ws j (length ws)) (sym e))
  scan_none i us j le fresh short (past more on le' same some e) = short on (more, e)
  scan_none i us j le fresh short (beyond on here last) = absurd (omega (arith, le, here))

-- the last place
abbrev pub last_place : Words → Bool → ℕ
last_place ws goes_on = length ws + (if goes_on then 1 else 0)

pub place_within : (ws : Words) (goes_on : Bool) (j : ℕ) → IsPlace ws goes_on j → j ≤ last_place ws goes_on
place_within ws goes_on j (inl le) = omega (arith, le)
place_within ws false j (inr at) = absurd (cc)
place_within ws true j (inr at) = omega (arith, at.1)

-- any words lead to each place from there on
pub scan_any : (ws : Words) (goes_on : Bool) (i j : ℕ) → IsPlace ws goes_on i → i ≤ j → j ≤ last_place ws goes_on → (us : Words) × Reads ws goes_on i us j
scan_any ws goes_on i j place le last = ⊎_elim (λ lt. after goes_on place last lt) (λ within. (slice_range ws i j, between le within refl)) (cases_lt (length ws) j)
  where
    after : (on : Bool) → IsPlace ws on i → j ≤ last_place ws on → length ws < j → (us : Words) × Reads ws on i us j
    after false place last lt = absurd (omega (arith, last, lt))
    after true (inl from) last lt = (slice_range ws i (length ws) ++ [] ∷ [], past ([] ∷ []) refl from (omega (arith, last, lt)) (λ z. absurd (cc)) refl)
    after true (inr from) last lt = ([], beyond refl from.1 (omega (arith, last, lt)))

pub scan_garbage : (ws : Words) (goes_on : Bool) (i j : ℕ) → IsPlace ws goes_on i →
    ((i ≤ j) × (j ≤ last_place ws goes_on) → (us : Words) × Reads ws goes_on i us j) × ((us : Words) × Reads ws goes_on i us j → (i ≤ j) × (j ≤ last_place ws goes_on))
scan_garbage ws goes_on i j place = (
  λ h. scan_any ws goes_on i j place h.0 h.1,
  λ h. (reads_on ws goes_on i h.0 j h.1, place_within ws goes_on j (reads_to ws goes_on i h.0 j h.1)),
)
