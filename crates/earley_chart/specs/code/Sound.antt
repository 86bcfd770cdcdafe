-- When what a board holds is right, and what one visit of a spot gives.
use Rattle.std.specs.Prelude.{ℕ, ◌≡◌, ◌≤◌, ◌<◌, ◌-◌, ◌⊎◌, Bool, Some, length}
use Rattle.vg_base.specs.declared.numbers.RuleIx.{RuleIx}
use Rattle.grammar_tree.specs.declared.linked.Node.{Node}
use Rattle.grammar_tree.specs.declared.linked.Node.TheVariants as node
use Rattle.grammar_tree.specs.Links.{Rules, IsLinked, node_at}
use Rattle.grammar_tree.specs.Derives.{Words}
use Rattle.earley_chart.specs.declared.places.Places.{Places}
use Rattle.earley_chart.specs.declared.board.Spot.{Spot}
use Rattle.earley_chart.specs.declared.board.Board.{Board}
use Rattle.earley_chart.specs.declared.predictor.Repeat.{Repeat}
use Rattle.earley_chart.specs.declared.reading.Task.{Task}
use Rattle.earley_chart.specs.Places.{Has}
use Rattle.earley_chart.specs.code.Reads.{IsPlace}
use Rattle.earley_chart.specs.code.Steps.{Leads, PartsLead, TurnsLead, Met}
use Rattle.grammar_tree.specs.Derives.{OfBody}
use Rattle.earley_chart.specs.code.Boards.{node_of, spot_at, moved, Sees, IsSpot, EndsAt, Asks, IsDue, IsWhole, Grows, found, due}

module _ (L : Rules) (ws : Words) (goes_on : Bool) (r : RuleIx) where
  -- what so many steps of a node have done from i to m
  abbrev pub Done : Node → ℕ → ℕ → ℕ → Type 0
  Done (node.Seq ps) k i m = PartsLead L ws goes_on ps k i m
  Done (node.Rep least most p) k i m = TurnsLead L ws goes_on least most p (k - 1) i m
  Done _ k i m = i ≡ m

  abbrev pub Stood : Node → ℕ → ℕ → ℕ → Type 0
  Stood x k i m = (k ≡ 0 → i ≡ m) × Done x k i m

  -- the spot's node is met at some place, and its steps lead from there to here
  pub record IsRightSpot (s : Spot) : Type 0 where
    pub kind : Node
    pub node : node_at L (node_of s) ≡ Some kind
    pub place : IsPlace ws goes_on s.start
    pub from : ℕ
    pub at : IsPlace ws goes_on from
    pub met : Met L ws goes_on r (node_of s) from
    pub stood : Stood kind s.step from s.start

  -- from wherever its steps lead here, the node derives what leads there
  abbrev pub IsRightEnd : Spot → ℕ → Type 0
  IsRightEnd s j = (x : Node) (i : ℕ) → node_at L (node_of s) ≡ Some x → IsPlace ws goes_on i → Stood x s.step i s.start → Leads L ws goes_on (node_of s) i j

  pub record IsSound (b : Board) : Type 0 where
    pub spots : (at : ℕ) (s : Spot) → IsSpot b at s → IsRightSpot s
    pub ends : (at : ℕ) (s : Spot) (j : ℕ) → IsSpot b at s → EndsAt b at j → IsRightEnd s j

  -- each spot is to be looked at, or ends where what it asks ends
  abbrev pub IsFollowed : Board → Type 0
  IsFollowed b = (at : ℕ) (s : Spot) (x : Node) → IsSpot b at s → node_at L (node_of s) ≡ Some x → IsDue b at ⊎ Asks L ws goes_on b at x s (EndsAt b at)

-- the node that has these counts
abbrev pub is_repeat : Repeat → Node
is_repeat x = node.Rep x.least x.most x.inner

abbrev pub rules_of : Task → Rules
rules_of t = t.linked.now

abbrev pub words_of : Task → Words
words_of t = t.reading.words.now

abbrev pub RightSpot : Task → Spot → Type 0
RightSpot t s = IsRightSpot (rules_of t) (words_of t) t.reading.goes_on t.rule s

abbrev pub RightEnd : Task → Spot → ℕ → Type 0
RightEnd t s j = IsRightEnd (rules_of t) (words_of t) t.reading.goes_on t.rule s j

-- a board that is whole and sound, and what it is for
pub record IsGood (t : Task) (b : Board) : Type 0 where
  pub linked : IsLinked (rules_of t)
  pub few : length (words_of t) ≤ 64
  pub whole : IsWhole b
  pub sound : IsSound (rules_of t) (words_of t) t.reading.goes_on t.rule b

abbrev pub Followed : Task → Board → Type 0
Followed t b = IsFollowed (rules_of t) (words_of t) t.reading.goes_on t.rule b

-- a good board that grew
pub record Went (t : Task) (old now : Board) : Type 0 where
  pub good : IsGood t now
  pub grows : Grows old now

-- a spot of the board
pub record IsOf (t : Task) (b : Board) (at : ℕ) (s : Spot) : Type 0 where
  pub good : IsGood t b
  pub here : IsSpot b at s

-- the one above looked at the spot moved to each of these places, from its own place on
abbrev pub SeesEach : Board → ℕ → Spot → Places → Places → Type 0
SeesEach b above next places ends =
    (j : ℕ) → next.start ≤ j → Has places j → Sees b above (moved next j) (Has ends)

-- each end is one of the spot moved to one of these places
abbrev pub EndsOfSome : Task → Spot → Places → Places → Type 0
EndsOfSome t next places ends =
    (k : ℕ) → Has ends k → (j : ℕ) × (next.start ≤ j) × Has places j × RightEnd t (moved next j) k

-- where a spot of this kind ends, by what it asks
pub record Answer (t : Task) (b : Board) (at : ℕ) (s : Spot) (ends : Places) : Type 0 where
  pub asks : (x : Node) → node_at (rules_of t) (node_of s) ≡ Some x → Asks (rules_of t) (words_of t) t.reading.goes_on b at x s (Has ends)
  pub right : (j : ℕ) → Has ends j → RightEnd t s j

-- the rule's body stands first
abbrev pub IsBegun : Task → Board → Type 0
IsBegun t b = OfBody (rules_of t) t.rule (λ n. IsSpot b 0 (spot_at n 0 0))

-- each spot but one is to be looked at, or ends where what it asks ends
abbrev pub IsFollowedBut : Task → Board → ℕ → Type 0
IsFollowedBut t b but = (at : ℕ) (s : Spot) (x : Node) → (at ≡ but → ⊥) → IsSpot b at s → node_at (rules_of t) (node_of s) ≡ Some x →
    IsDue b at ⊎ Asks (rules_of t) (words_of t) t.reading.goes_on b at x s (EndsAt b at)

-- a run that goes on
pub record Begun (t : Task) (b : Board) : Type 0 where
  pub good : IsGood t b
  pub first : IsBegun t b
  pub followed : Followed t b

-- one spot was visited
pub record Visited (t : Task) (old now : Board) (at : ℕ) : Type 0 where
  pub good : IsGood t now
  pub spots : (other : ℕ) (s : Spot) → IsSpot old other s → IsSpot now other s
  pub followed : IsFollowedBut t old at → Followed t now
  pub rises : (found old < found now) ⊎ ((found now ≡ found old) × (due now ≡ due old))

-- a run that is at its end: each spot ends where what it asks ends
pub record Ran (t : Task) (b : Board) : Type 0 where
  pub good : IsGood t b
  pub first : IsBegun t b
  pub asks : (at : ℕ) (s : Spot) (x : Node) → IsSpot b at s → node_at (rules_of t) (node_of s) ≡ Some x → Asks (rules_of t) (words_of t) t.reading.goes_on b at x s (EndsAt b at)
