-- Reading a list of items, as the lexemes of a text, by what they spell: which answer is right, and the answer of a machine.
use Rattle.std.specs.Prelude.{◌≡◌, ℕ, suc, ◌≤◌, List, [], ◌∷◌, ◌++◌, take, drop, length, Option, Some, Result, Ok, Err}
use Rattle.std.specs.Option.{option_and_then, option_map_or, ok_or}

-- ---- which answer is right

-- `Spells items result` says that the items are how this result is written
module _ {X R : Type 0} (Spells : List X → R → Type 0) where
  -- with some more items behind them they spell something
  abbrev pub Begins : List X → Type 0
  Begins items = (more : List X) × (result : R) × Spells (items ++ more) result

  -- behind these items what is left doesn't fit: its first item, with which they begin nothing; or its end, since they spell nothing
  abbrev pub FitsNone : (before rest : List X) → Type 0
  FitsNone before [] = (result : R) → Spells before result → ⊥
  FitsNone before (item ∷ rest) = Begins (before ++ item ∷ []) → ⊥

  -- the first item that doesn't fit has this index; the number of all items, where they end too early
  pub record FirstUnfit (items : List X) (at : ℕ) : Type 0 where
    pub within : at ≤ length items
    pub begins : Begins (take at items)
    pub unfit : FitsNone (take at items) (drop at items)

  -- the items spell this result and no other
  pub record SpellsOnly (items : List X) (result : R) : Type 0 where
    pub spells : Spells items result
    pub only : (other : R) → Spells items other → other ≡ result

  -- the right answer: the one result, or where the first item stands that doesn't fit
  abbrev pub Reads : List X → Result R ℕ → Type 0
  Reads items (Ok result) = SpellsOnly items result
  Reads items (Err at) = FirstUnfit items at

-- ---- a machine

-- it begins in a state, goes on by one item or stops, and has a result or none where the items end
pub record Machine (X R S : Type 0) : Type 0 where
  pub start : S
  pub step : S → X → Option S
  pub result_of : S → Option R

module _ {X R S : Type 0} (machine : Machine X R S) where
  -- the state behind these items, if none of them stops it
  abbrev pub run : S → List X → Option S
  run state [] = Some state
  run state (item ∷ items) = option_and_then (λ next. run next items) (machine.step state item)

  -- the answer to these items, from a state that comes behind so many others
  abbrev pub answer_from : ℕ → S → List X → Result R ℕ
  answer_from at state [] = ok_or (machine.result_of state) at
  answer_from at state (item ∷ items) = option_map_or (λ next. answer_from (suc at) next items) (machine.step state item) (Err at)

  -- the machine's answer: its result, or the index of the item at which it stops
  abbrev pub answer : List X → Result R ℕ
  answer = answer_from 0 machine.start

  -- the machine reads this result from the items
  pub record ReadsAs (items : List X) (result : R) : Type 0 where
    pub last : S
    pub runs : run machine.start items ≡ Some last
    pub ends : machine.result_of last ≡ Some result

  -- The machine reads what is spelled, as what it means, and nothing else; and wherever it hasn't stopped, what it has read begins something.
  -- So its answer is the right one, and the only one.
  pub record IsExact (Spells : List X → R → Type 0) : Type 0 where
    pub complete : (items : List X) (result : R) → Spells items result → ReadsAs items result
    pub sound : (items : List X) (result : R) → ReadsAs items result → Spells items result
    pub viable : (items : List X) (state : S) → run machine.start items ≡ Some state → Begins Spells items
