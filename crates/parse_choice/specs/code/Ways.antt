-- The places from which a rest can be completed, by the spans of a chart.
use Rattle.std.specs.Prelude.{ℕ, suc, zero, ◌≡◌, ◌≤◌, ◌<◌, ◌+◌, ◌⊎◌, ◌↔◌, max, Bool, IsTrue, List, [], ◌∷◌, Some, length, slice_get}
use Rattle.vg_base.specs.declared.numbers.NodeIx.{NodeIx}
use Rattle.grammar_tree.specs.Derives.{IsAtMost}
use Rattle.earley_chart.specs.declared.places.Places.{Places}
use Rattle.earley_chart.specs.Places.{Has, Holds}
use Rattle.earley_chart.specs.Chart.{Table, Spans}
use Rattle.parse_choice.specs.declared.accepted.Repeat.{Repeat}
use Rattle.parse_choice.specs.declared.accepted.Turns.{Turns}

-- no span of the chart ends behind the longest line
abbrev pub AreInLine : Table → Type 0
AreInLine c = (n : NodeIx) (i j : ℕ) → Spans c n i j → j < 65

-- the node goes from place i to place j, and, where a word is asked for, further
abbrev pub Leaves : Table → NodeIx → ℕ → Bool → ℕ → Type 0
Leaves c n i with_word j = Spans c n i j × (IsTrue with_word → i < j)

-- the node ends at one of these places from place i
abbrev pub EndsIn : Table → NodeIx → Places → Bool → ℕ → Type 0
EndsIn c n ends with_word i = (j : ℕ) × Leaves c n i with_word j × Has ends j

-- the places of a line from which the node ends at one of these
pub record IsBefore (c : Table) (n : NodeIx) (ends : Places) (with_word : Bool) (all : Places) : Type 0 where
  pub from : (i : ℕ) → Has all i → EndsIn c n ends with_word i
  pub has : (i : ℕ) → i < 65 → EndsIn c n ends with_word i → Has all i

abbrev pub HasSome : Places → Type 0
HasSome ends = (j : ℕ) × Has ends j

-- one of the places is behind place i, and no further than the last
abbrev pub IsFurther : Places → ℕ → ℕ → Type 0
IsFurther ends i last = (j : ℕ) × (i < j) × (j ≤ last) × Has ends j

-- so many turns, each with a word, lead from place i to one of these places
abbrev pub Lead : Table → NodeIx → Places → ℕ → ℕ → Type 0
Lead c n ends zero i = Has ends i
Lead c n ends (suc more) i = (j : ℕ) × (i < j) × Spans c n i j × Lead c n ends more j

-- set number l has place i
abbrev pub HasAt : List Places → ℕ → ℕ → Type 0
HasAt sets l i = (set : Places) × (slice_get sets l ≡ Some set) × Has set i

-- set number 0: where the repeat may end
abbrev pub ends_of : List Places → Places
ends_of [] = record { 0 = 0 }
ends_of (ends ∷ sets) = ends

-- set number l has the places of a line from which l turns with a word lead to one of these
pub record AreWays (c : Table) (n : NodeIx) (ends : Places) (sets : List Places) : Type 0 where
  pub few : length sets ≤ 65
  pub first : ends_of sets ≡ ends
  pub from : (l i : ℕ) → HasAt sets l i → Lead c n ends l i
  pub has : (l i : ℕ) → i < 65 → Lead c n ends l i → HasAt sets l i

-- so many turns made, so many more with a word, and as many empty ones as are wanting, where a turn can be empty
abbrev pub Suffices : Repeat → ℕ → ℕ → Bool → Type 0
Suffices r made words empty = (IsTrue empty ⊎ (r.least ≤ made + words)) × IsAtMost r.most (max (made + words) r.least)

-- so the repeat can be completed from place i
abbrev pub IsCompleted : Turns → ℕ → Bool → ℕ → Type 0
IsCompleted t made empty i = (words : ℕ) × HasAt t.ways words i × Suffices t.repeat made words empty

-- the next turn goes from place i to place j, with a word past the least, and the repeat can be completed from there
pub record IsOnward (c : Table) (t : Turns) (i : ℕ) (empty : Bool) (j : ℕ) : Type 0 where
  pub most : IsAtMost t.repeat.most (t.made + 1)
  pub span : Spans c t.repeat.inner i j
  pub word : t.repeat.least ≤ t.made → i < j
  pub completed : IsCompleted t (t.made + 1) empty j

-- the places to which the next turn may go, where it is known whether a turn can be empty
pub record AreOnward (c : Table) (t : Turns) (i : ℕ) (ends : Places) : Type 0 where
  pub empty : Bool
  pub tells : IsTrue empty ↔ Spans c t.repeat.inner i i
  pub holds : Holds ends (IsOnward c t i empty)

abbrev pub next_of : Turns → Turns
next_of t = record { repeat = t.repeat; made = t.made + 1; ways = t.ways }
