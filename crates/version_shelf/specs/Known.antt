-- What a publisher and a reader know: pairs of a number and the value that has it.
use Rattle.std.specs.Prelude.{◌≡◌, ℕ, ◌+◌, List, [], ◌∷◌, ◌++◌, map, slice_index_or, option_map, Option, Some, None}
use Rattle.std.specs.List.{Contains}
use Rattle.std.specs.Arc.{arc_value}
use Rattle.std.specs.declared.sync.Arc.{Arc}
use Rattle.std.specs.declared.alloc.Global.{Global}
use Rattle.once_cell.specs.declared.race.note.Note.{Note}

module _ {X : Type 0} where
  -- no pair is dropped or changed
  abbrev pub Keeps : List (ℕ × X) → List (ℕ × X) → Type 0
  Keeps old new = (n : ℕ) (x : X) → Contains old (n, x) → Contains new (n, x)

  -- a number that stands in both lists has one value
  abbrev pub OneValue : List (ℕ × X) → List (ℕ × X) → Type 0
  OneValue ps qs = (n : ℕ) (x y : X) → Contains ps (n, x) → Contains qs (n, y) → x ≡ y

  -- what each note knows of its cell
  abbrev pub facts : List (Note X) → List (Option X)
  facts notes = map (λ (m : Note X). m.known) notes

  -- the note at k knows x
  abbrev pub KnowsAt : List (Note X) → ℕ → X → Type 0
  KnowsAt notes k x = slice_index_or (facts notes) k None ≡ Some x

  abbrev pub pair_of : ℕ → Option X → List (ℕ × X)
  pair_of n None = []
  pair_of n (Some x) = (n, x) ∷ []

  -- what stands in a row, each with the number of its place, where the first place has the number n
  abbrev pub pairs : ℕ → List (Option X) → List (ℕ × X)
  pairs n [] = []
  pairs n (o ∷ os) = pair_of n o ++ pairs (n + 1) os

  -- what a note knew, it still knows
  abbrev pub KeepsFacts : List (Note X) → List (Note X) → Type 0
  KeepsFacts old new = (k : ℕ) (x : X) → KnowsAt old k x → KnowsAt new k x

module _ {V : Type 0} where
  -- the values of what is shared
  abbrev pub values : List (Option (Arc V Global)) → List (Option V)
  values fs = map (option_map arc_value) fs

  -- the pairs of what a row of notes knows, where the first note's cell has the number n
  abbrev pub known : ℕ → List (Note (Arc V Global)) → List (ℕ × V)
  known n notes = pairs n (values (facts notes))
