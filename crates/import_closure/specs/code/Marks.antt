-- Documents marked by their places, and the list of those that are.
use Rattle.std.specs.Prelude.{◌≡◌, ℕ, suc, Bool, true, false, List, [], ◌∷◌, slice_index_or}
use Rattle.vg_base.specs.declared.numbers.DocIx.{DocIx}
use Rattle.rule_reader.specs.Sets.{ix}

-- past the end none is marked
abbrev pub IsMarked : List Bool → ℕ → Type 0
IsMarked marks y = slice_index_or marks y false ≡ true

-- the places of the marks, the first of which is n
abbrev pub places_from : ℕ → List Bool → List DocIx
places_from n [] = []
places_from n (true ∷ marks) = ix n ∷ places_from (suc n) marks
places_from n (false ∷ marks) = places_from (suc n) marks

abbrev pub unmarked : List Bool → ℕ
unmarked [] = 0
unmarked (true ∷ marks) = unmarked marks
unmarked (false ∷ marks) = suc (unmarked marks)
