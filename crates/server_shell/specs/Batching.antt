-- A list that is divided into batches by a test of each item, and of a count that is kept within a
-- batch.
use Rattle.std.specs.Prelude.{◌≡◌, Bool, true, false, List, [], ◌∷◌, ◌++◌, if◌then◌else◌}
use Rattle.std.specs.List.{onto_first}

pub record Division (C X : Type 0) : Type 0 where
  -- the count where a batch begins
  pub first : C
  -- the count behind one more item
  pub next : C → X → C
  -- the item ends the batch
  pub ends : C → X → Bool

-- x at the front of the first of the batches, where there is one
abbrev pub onto_some : {X : Type 0} → X → List (List X) → List (List X)
onto_some x [] = []
onto_some x (b ∷ bs) = (x ∷ b) ∷ bs

-- what stands behind the last end is a batch where it has an item
abbrev pub last_batch : {X : Type 0} → List X → List (List X)
last_batch [] = []
last_batch (x ∷ xs) = (x ∷ xs) ∷ []

-- all items of the batches, in their order
abbrev pub items_of : {X : Type 0} → List (List X) → List X
items_of [] = []
items_of (b ∷ bs) = b ++ items_of bs

module _ {C X : Type 0} (division : Division C X) where
  -- the batches that their own last item ended
  unfoldable pub whole_batches_of : C → List X → List (List X)
  whole_batches_of c [] = []
  whole_batches_of c (x ∷ xs) =
      if division.ends c x then (x ∷ []) ∷ whole_batches_of division.first xs
      else onto_some x (whole_batches_of (division.next c x) xs)

  -- these, and what stands behind them where it has an item
  unfoldable pub batches_of : C → List X → List (List X)
  batches_of c [] = []
  batches_of c (x ∷ xs) =
      if division.ends c x then (x ∷ []) ∷ batches_of division.first xs
      else onto_first x (batches_of (division.next c x) xs)

  -- the count behind several items
  abbrev pub count_behind : C → List X → C
  count_behind c [] = c
  count_behind c (x ∷ xs) = count_behind (division.next c x) xs

  -- no item ends the batch, from this count on
  abbrev pub IsOpen : C → List X → Type 0
  IsOpen c [] = Unit {0}
  IsOpen c (x ∷ xs) = (division.ends c x ≡ false) × IsOpen (division.next c x) xs

  -- the last item ends the batch, from this count on, and none before it does
  abbrev pub IsBatch : C → List X → Type 0
  IsBatch c [] = ⊥
  IsBatch c (x ∷ []) = division.ends c x ≡ true
  IsBatch c (x ∷ y ∷ xs) = (division.ends c x ≡ false) × IsBatch (division.next c x) (y ∷ xs)
