-- The same value written at several places.
use Rattle.std.specs.Prelude.{ℕ, List, [], ◌∷◌, slice_set}

abbrev pub set_all : {X : Type 0} → List ℕ → X → List X → List X
set_all [] x xs = xs
set_all (k ∷ ks) x xs = set_all ks x (slice_set xs k x)
