-- Sets of places, as the bits of a number.
use Rattle.std.specs.Prelude.{ℕ, ◌≡◌, ◌↔◌}
use Rattle.std.specs.Int.{bit_at}
use Rattle.earley_chart.specs.declared.places.Places.{Places}

-- the place is in the set
abbrev pub Has : Places → ℕ → Type 0
Has set j = bit_at set.0 j ≡ 1

-- the set has exactly the places of which the fact holds
abbrev pub Holds : Places → (ℕ → Type 0) → Type 0
Holds set P = (j : ℕ) → Has set j ↔ P j
