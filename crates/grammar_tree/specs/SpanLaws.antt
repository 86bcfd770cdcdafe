-- The laws of fronts: a sequence and a repeat are derived one part or turn after another; and where what is reached stands.
use Rattle.std.specs.Prelude.{ℕ, ◌+◌, ◌≡◌, ◌≢◌, ◌≤◌, ◌<◌, ◌↔◌, List, Option, Some, ⊤, length, slice_get}
use Rattle.vg_base.specs.declared.numbers.NodeIx.{NodeIx}
use Rattle.vg_base.specs.declared.numbers.RuleIx.{RuleIx}
use Rattle.grammar_tree.specs.declared.linked.Node.{Node}
use Rattle.grammar_tree.specs.declared.linked.Node.TheVariants as node
use Rattle.grammar_tree.specs.Links.{Rules, IsLinked, node_at}
use Rattle.grammar_tree.specs.Derives.{Words, IsAtMost}
use Rattle.grammar_tree.specs.Reached.{DerivesSpan, Front, Follows, Reached}

-- a node that is derived in steps
abbrev pub HasSteps : Node → Type 0
HasSteps (node.Seq ps) = ⊤
HasSteps (node.Rep least most p) = ⊤
HasSteps _ = ⊥

-- before the first part or turn no word is derived
abbrev pub NoStepNoWord : Type 0
NoStepNoWord =
    (L : Rules) (ws : Words) (x : Node) (i j : ℕ) → HasSteps x → Front L ws x 0 i j ↔ ((i ≡ j) × (j ≤ length ws))

-- one more part: it begins where the parts before it end
abbrev pub OneMorePart : Type 0
OneMorePart =
    (L : Rules) (ws : Words) (ps : List NodeIx) (k i j : ℕ) → Front L ws (node.Seq ps) (k + 1) i j ↔
    ((m : ℕ) × (p : NodeIx) × (slice_get ps k ≡ Some p) × Front L ws (node.Seq ps) k i m × DerivesSpan L ws p m j)

-- one more turn: within the most, and with a word where the least is reached
abbrev pub OneMoreTurn : Type 0
OneMoreTurn =
    (L : Rules) (ws : Words) (least : ℕ) (most : Option ℕ) (p : NodeIx) (k i j : ℕ) →
    Front L ws (node.Rep least most p) (k + 1) i j ↔
    ((m : ℕ) × IsAtMost most (k + 1) × (least ≤ k → m ≢ j) × Front L ws (node.Rep least most p) k i m × DerivesSpan L ws p m j)

-- what may follow a front makes the next one, where it has a word
abbrev pub FollowersGoOn : Type 0
FollowersGoOn =
    (L : Rules) (ws : Words) (x : Node) (p : NodeIx) (k i m j : ℕ) → Follows x k p → Front L ws x k i m → DerivesSpan L ws p m j → m ≢ j → Front L ws x (k + 1) i j

-- a sequence is all of its parts
abbrev pub AllPartsDerive : Type 0
AllPartsDerive =
    (L : Rules) (ws : Words) (n : NodeIx) (ps : List NodeIx) (i j : ℕ) → node_at L n ≡ Some (node.Seq ps) →
    DerivesSpan L ws n i j ↔ Front L ws (node.Seq ps) (length ps) i j

-- a repeat is so many of its turns as lie between its least and its most
abbrev pub EnoughTurnsDerive : Type 0
EnoughTurnsDerive =
    (L : Rules) (ws : Words) (n : NodeIx) (least : ℕ) (most : Option ℕ) (p : NodeIx) (i j : ℕ) → node_at L n ≡ Some (node.Rep least most p) →
    DerivesSpan L ws n i j ↔ ((k : ℕ) × (least ≤ k) × Front L ws (node.Rep least most p) k i j)

-- what is reached is a node, after no more words than there are
abbrev pub ReachedIsInRange : Type 0
ReachedIsInRange =
    (L : Rules) (ws : Words) (r : RuleIx) (n : NodeIx) (i : ℕ) → IsLinked L → Reached L ws r n i → (n.0 < length L.nodes) × (i ≤ length ws)
