-- Places that are marked, how often a number stands in a list, and rows whose ends have grown.
use Rattle.std.specs.Prelude.{ℕ, ◌≡◌, ◌==◌, Bool, false, cond, List, [], ◌++◌, count_by, slice_index_or, slice_set}
use Rattle.vg_base.specs.declared.numbers.NodeIx.{NodeIx}

abbrev pub is_marked : List Bool → ℕ → Bool
is_marked marks n = slice_index_or marks n false

-- 1 or 0
abbrev pub bit : Bool → ℕ
bit b = cond b 1 0

-- how often the number stands in the list
abbrev pub times : ℕ → List ℕ → ℕ
times n xs = count_by (λ m. m == n) xs

-- how often the node with this number stands in the list
abbrev pub times_named : ℕ → List NodeIx → ℕ
times_named n ps = count_by (λ p. p.0 == n) ps

abbrev pub row : List (List ℕ) → ℕ → List ℕ
row rows at = slice_index_or rows at []

-- one row has these numbers more at its end
abbrev pub Grown : ℕ → List ℕ → List (List ℕ) → List (List ℕ) → Type 0
Grown at more old now = now ≡ slice_set old at (row old at ++ more)
