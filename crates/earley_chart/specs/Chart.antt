-- What a chart says, and when it is the chart of a rule over a line of words (Earley 1970).
use Rattle.std.specs.Prelude.{ℕ, ◌≡◌, ◌≤◌, ◌<◌, ◌^◌, ◌↔◌, Bool, IsTrue, List, Some, length, slice_get}
use Rattle.vg_base.specs.declared.numbers.NodeIx.{NodeIx}
use Rattle.vg_base.specs.declared.numbers.RuleIx.{RuleIx}
use Rattle.grammar_tree.specs.Links.{Rules}
use Rattle.grammar_tree.specs.Derives.{Words, OfBody, RuleHasTree}
use Rattle.grammar_tree.specs.Reached.{DerivesSpan, Reached}
use Rattle.grammar_tree.specs.Longer.{Longer}
use Rattle.earley_chart.specs.declared.board.Spot.{Spot}
use Rattle.earley_chart.specs.declared.places.Places.{Places}
use Rattle.earley_chart.specs.Places.{Has}

-- the rule and the words on which a chart was run, the nodes with the places where they are reached, and beside each
-- the places where it ends
pub record Table : Type 0 where
  pub rule : RuleIx
  pub words : Words
  pub spots : List Spot
  pub ends : List Places

-- what a chart keeps: there is a first row, each row has its ends, no two rows are alike, and the words are few
pub record IsTable (c : Table) : Type 0 where
  pub few : length c.words ≤ 64
  pub some : 0 < length c.spots
  pub columns : length c.ends ≡ length c.spots
  pub apart : (row other : ℕ) (spot : Spot) → slice_get c.spots row ≡ Some spot → slice_get c.spots other ≡ Some spot → row ≡ other
  pub small : (row : ℕ) (ends : Places) → slice_get c.ends row ≡ Some ends → ends.0 < 2 ^ 128

-- the row is the node at place i; a row with steps behind it is none of a node
abbrev pub IsRow : Table → ℕ → NodeIx → ℕ → Type 0
IsRow c row n i = slice_get c.spots row ≡ Some (record { node = n.0; step = 0; start = i })

-- place j is among the ends of the row
abbrev pub EndsAt : Table → ℕ → ℕ → Type 0
EndsAt c row j = (ends : Places) × (slice_get c.ends row ≡ Some ends) × Has ends j

-- the chart has the node at place i
abbrev pub Predicts : Table → NodeIx → ℕ → Type 0
Predicts c n i = (row : ℕ) × IsRow c row n i

abbrev pub Lacks : Table → NodeIx → ℕ → Type 0
Lacks c n i = Predicts c n i → ⊥

abbrev pub AtRow : Table → NodeIx → ℕ → ℕ → Type 0
AtRow c n i row = IsRow c row n i

-- the chart has the node from place i to place j
abbrev pub Spans : Table → NodeIx → ℕ → ℕ → Type 0
Spans c n i j = (row : ℕ) × IsRow c row n i × EndsAt c row j

-- the chart is what its rule reaches in the linked rules over its words, and where each node that is reached ends
pub record RanOn (L : Rules) (c : Table) : Type 0 where
  pub few : length c.words ≤ 64
  -- the rule's body stands first
  pub first : OfBody L c.rule (λ n. IsRow c 0 n 0)
  pub reached : (n : NodeIx) (i : ℕ) → Predicts c n i ↔ Reached L c.words c.rule n i
  pub spans : (n : NodeIx) (i j : ℕ) → Predicts c n i → Spans c n i j ↔ DerivesSpan L c.words n i j

-- the answer says whether the rule derives the words, in whatever linked rules the chart was run on
abbrev pub TellsMatch : Table → Bool → Type 0
TellsMatch c answer = (L : Rules) → RanOn L c → IsTrue answer ↔ RuleHasTree L c.rule c.words

-- the answer says whether the node is reached at place i
abbrev pub TellsReached : Table → NodeIx → ℕ → Bool → Type 0
TellsReached c n i answer = (L : Rules) → RanOn L c → IsTrue answer ↔ Reached L c.words c.rule n i

-- the answer says whether the node derives the words from i to j
abbrev pub TellsSpan : Table → NodeIx → ℕ → ℕ → Bool → Type 0
TellsSpan c n i j answer = (L : Rules) → RanOn L c → IsTrue answer ↔ DerivesSpan L c.words n i j

-- the answer says whether the words may go on
abbrev pub TellsLonger : Rules → Table → Bool → Type 0
TellsLonger L c answer = IsTrue answer ↔ Longer L c.rule c.words
