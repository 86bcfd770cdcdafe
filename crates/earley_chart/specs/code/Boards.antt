-- What a board holds: spots, where they end, who looked at them; and what each spot asks.
use Rattle.std.specs.Prelude.{ℕ, ◌≡◌, ◌≢◌, ◌≤◌, ◌<◌, ◌+◌, ◌-◌, ◌^◌, ◌⊎◌, Bool, List, Option, Some, None, length, slice_get, sum_by, nat_eq}
use Rattle.std.specs.List.{Contains, IsDistinct}
use Rattle.std.specs.declared.hash.BuildHasherDefault.{BuildHasherDefault}
use Rattle.std.specs.declared.hash.FoldHasher.{FoldHasher}
use Rattle.indexmap.specs.IndexSet.{IndexSet}
use Rattle.vg_base.specs.declared.numbers.NodeIx.{NodeIx}
use Rattle.vg_base.specs.declared.numbers.RuleIx.{RuleIx}
use Rattle.grammar_tree.specs.declared.linked.Node.{Node}
use Rattle.grammar_tree.specs.declared.linked.Node.TheVariants as node
use Rattle.grammar_tree.specs.declared.linked.LinkedRule.{LinkedRule}
use Rattle.grammar_tree.specs.Links.{Rules, node_at, rule_at}
use Rattle.grammar_tree.specs.Derives.{Words, IsAtMost}
use Rattle.earley_chart.specs.declared.places.Places.{Places}
use Rattle.earley_chart.specs.declared.board.Spot.{Spot}
use Rattle.earley_chart.specs.declared.board.Board.{Board}
use Rattle.earley_chart.specs.Places.{Has}
use Rattle.earley_chart.specs.code.Reads.{Reads}
use Rattle.earley_chart.specs.code.Steps.{next_level}

abbrev pub node_of : Spot → NodeIx
node_of s = record { 0 = s.node }

-- the node with so many steps behind it, at a place
abbrev pub spot_at : NodeIx → ℕ → ℕ → Spot
spot_at n k m = record { node = n.0; step = k; start = m }

-- the spot at another place
abbrev pub moved : Spot → ℕ → Spot
moved s j = record { node = s.node; step = s.step; start = j }

-- the numbers of who waits for a spot, each once
abbrev pub Lookers : Type 0
Lookers = IndexSet ℕ (BuildHasherDefault FoldHasher)

abbrev pub IsSpot : Board → ℕ → Spot → Type 0
IsSpot b at s = slice_get b.spots.keys at ≡ Some s

abbrev pub EndsAt : Board → ℕ → ℕ → Type 0
EndsAt b at j = (ends : Places) × (slice_get b.ends.items at ≡ Some ends) × Has ends j

-- the one above is to look again where this spot ends elsewhere
abbrev pub Waits : Board → ℕ → ℕ → Type 0
Waits b above at = (all : Lookers) × (slice_get b.waiting.items at ≡ Some all) × Contains all.keys above

-- the one above looked at the spot, and each place where that ends is one of these
abbrev pub Sees : Board → ℕ → Spot → (ℕ → Type 0) → Type 0
Sees b above s P = (at : ℕ) × IsSpot b at s × Waits b above at × ((j : ℕ) → EndsAt b at j → P j)

-- what the one above sees when it looks
abbrev pub Shows : Board → ℕ → Spot → Places → Type 0
Shows b above s ends = (at : ℕ) × IsSpot b at s × Waits b above at × ((j : ℕ) → EndsAt b at j → Has ends j) × ((j : ℕ) → Has ends j → EndsAt b at j)

-- the spot is to be looked at: for the first time, or again
abbrev pub IsDue : Board → ℕ → Type 0
IsDue b at = (b.seen ≤ at) ⊎ Contains b.again.keys at

-- what a spot of this kind asks of other spots, and where it ends by that
abbrev pub Asks : Rules → Words → Bool → Board → ℕ → Node → Spot → (ℕ → Type 0) → Type 0
Asks L ws goes_on b above (node.Token us) s E = (j : ℕ) → Reads ws goes_on s.start us j → E j
Asks L ws goes_on b above (node.Seq ps) s E =
    (s.step ≡ length ps → E s.start) ×
    ((p : NodeIx) → slice_get ps s.step ≡ Some p → Sees b above (spot_at p 0 s.start)
    (λ j. (s.step + 1 ≡ length ps → E j) × (s.step + 1 < length ps → Sees b above (spot_at (node_of s) (s.step + 1) j) E)))
Asks L ws goes_on b above (node.Alt ps) s E =
    (p : NodeIx) → slice_get ps s.step ≡ Some p → Sees b above (spot_at p 0 s.start) E × Sees b above (spot_at (node_of s) (s.step + 1) s.start) E
Asks L ws goes_on b above (node.Rep least most p) s E =
    (least ≤ s.step - 1 → E s.start) ×
    (IsAtMost most (s.step - 1 + 1) → Sees b above (spot_at p 0 s.start)
    (λ j. (s.start ≢ j → Sees b above (spot_at (node_of s) (next_level least most (s.step - 1) + 1) j) E) ×
    (s.start ≡ j → s.step - 1 < least → IsAtMost most least → E j)))
Asks L ws goes_on b above (node.Ref q) s E = (rule : LinkedRule) → rule_at L q ≡ Some rule → Sees b above (spot_at rule.body 0 s.start) E
Asks L ws goes_on b above (node.Tag tag) s E = E s.start
Asks L ws goes_on b above node.Null s E = E s.start
Asks L ws goes_on b above node.Void s E = Unit {0}
Asks L ws goes_on b above node.Garbage s E = (us : Words) (j : ℕ) → Reads ws goes_on s.start us j → E j

-- no spot is to be looked at
abbrev pub IsIdle : Board → Type 0
IsIdle b = (at : ℕ) → at < length b.spots.keys → IsDue b at → ⊥

abbrev pub IsWithin : List ℕ → List ℕ → Type 0
IsWithin few all = (at : ℕ) → Contains few at → Contains all at

abbrev pub IsOfEither : List ℕ → List ℕ → List ℕ → Type 0
IsOfEither all one other = (at : ℕ) → Contains all at → Contains one at ⊎ Contains other at

abbrev pub StaysDistinct : List ℕ → List ℕ → Type 0
StaysDistinct old now = IsDistinct nat_eq old → IsDistinct nat_eq now

-- a node and a place are one spot
abbrev pub AreApart : Board → Type 0
AreApart b = (at other : ℕ) (s : Spot) → IsSpot b at s → IsSpot b other s → at ≡ other

-- the board's columns fit, and each number in them is in range
pub record IsWhole (b : Board) : Type 0 where
  pub ends : length b.ends.items ≡ length b.spots.keys
  pub waiting : length b.waiting.items ≡ length b.spots.keys
  pub apart : AreApart b
  pub seen : b.seen ≤ length b.spots.keys
  pub again : (at : ℕ) → Contains b.again.keys at → at < length b.spots.keys
  pub waits : (above at : ℕ) → Waits b above at → above < length b.spots.keys
  pub distinct : IsDistinct nat_eq b.again.keys
  pub small : (at : ℕ) (e : Places) → slice_get b.ends.items at ≡ Some e → e.0 < 2 ^ 128

-- at most this spot is new
abbrev pub AddsOnly : Spot → Board → Board → Type 0
AddsOnly spot old now = (at : ℕ) (s : Spot) → IsSpot now at s → IsSpot old at s ⊎ (s ≡ spot)

-- more spots are there and more look; nothing ends elsewhere
pub record Grows (old now : Board) : Type 0 where
  pub spots : (at : ℕ) (s : Spot) → IsSpot old at s → IsSpot now at s
  pub more : length old.spots.keys ≤ length now.spots.keys
  pub ends : (at j : ℕ) → EndsAt now at j → EndsAt old at j
  pub ended : (at j : ℕ) → EndsAt old at j → EndsAt now at j
  pub waits : (above at : ℕ) → Waits old above at → Waits now above at
  pub seen : now.seen ≡ old.seen
  pub again : now.again ≡ old.again
  pub bits : sum_by (λ (e : Places). e.0) now.ends.items ≡ sum_by (λ (e : Places). e.0) old.ends.items

-- what a board has found, as a number that rises with each spot and each place
abbrev pub found : Board → ℕ
found b = length b.spots.keys + sum_by (λ (e : Places). e.0) b.ends.items

-- so many are to be looked at
abbrev pub due : Board → ℕ
due b = length b.spots.keys - b.seen + length b.again.keys

-- the spots, their ends and who waits are the same
pub record IsAlike (old now : Board) : Type 0 where
  pub spots : now.spots ≡ old.spots
  pub ends : now.ends ≡ old.ends
  pub waiting : now.waiting ≡ old.waiting

-- one that is to be looked at is taken
pub record Takes (old now : Board) (at : ℕ) : Type 0 where
  pub within : at < length old.spots.keys
  pub others : (other : ℕ) → IsDue old other → (other ≡ at) ⊎ IsDue now other
  pub fewer : due now + 1 ≡ due old

-- one spot ends at these places too, and who waited is to look again where that is new
pub record Ended (old now : Board) (at : ℕ) (ends : Places) : Type 0 where
  pub spots : now.spots ≡ old.spots
  pub seen : now.seen ≡ old.seen
  pub new : (j : ℕ) → Has ends j → EndsAt now at j
  pub kept : (other j : ℕ) → EndsAt old other j → EndsAt now other j
  pub from : (other j : ℕ) → EndsAt now other j → EndsAt old other j ⊎ ((other ≡ at) × Has ends j)
  pub waits : (above other : ℕ) → Waits old above other →
      Contains now.again.keys above ⊎ (Waits now above other × ((j : ℕ) → EndsAt now other j → EndsAt old other j))
  pub again : (other : ℕ) → Contains old.again.keys other → Contains now.again.keys other
  pub found : (found old < found now) ⊎ ((found now ≡ found old) × (now.again ≡ old.again))
