-- The first parts or turns of a node, and the nodes that a derivation of a rule reaches, place by place
-- (Earley 1970: an item, and what the predictor adds).
use Rattle.std.specs.Prelude.{ℕ, ◌+◌, ◌≡◌, ◌≤◌, List, take, Some, length, slice_get, slice_range}
use Rattle.vg_base.specs.declared.numbers.NodeIx.{NodeIx}
use Rattle.vg_base.specs.declared.numbers.RuleIx.{RuleIx}
use Rattle.grammar_tree.specs.declared.linked.Node.{Node}
use Rattle.grammar_tree.specs.declared.linked.Node.TheVariants as node
use Rattle.grammar_tree.specs.declared.linked.LinkedRule.{LinkedRule}
use Rattle.grammar_tree.specs.declared.parse_tree.ParseTree.{ParseTree}
use Rattle.grammar_tree.specs.Links.{Rules, node_at, rule_at}
use Rattle.grammar_tree.specs.Derives.{Words, IsAtMost, HasTree, DerivesEach, DerivesTurns}

-- the node derives the words from i to j
pub record DerivesSpan (L : Rules) (ws : Words) (n : NodeIx) (i j : ℕ) : Type 0 where
  pub order : i ≤ j
  pub within : j ≤ length ws
  pub derives : HasTree L n (slice_range ws i j)

-- the first k parts or turns of the node derive the words; a node of another kind has neither
abbrev pub FirstDerive : Rules → Node → ℕ → Words → Type 0
FirstDerive L (node.Seq ps) k us = (k ≤ length ps) × ((ts : List ParseTree) × DerivesEach L (take k ps) us ts)
FirstDerive L (node.Rep least most p) k us = IsAtMost most k × ((ts : List ParseTree) × (length ts ≡ k) × DerivesTurns L p least us ts)
FirstDerive L _ k us = ⊥

-- the first k parts or turns of the node derive the words from i to j
pub record Front (L : Rules) (ws : Words) (x : Node) (k i j : ℕ) : Type 0 where
  pub order : i ≤ j
  pub within : j ≤ length ws
  pub derive : FirstDerive L x k (slice_range ws i j)

-- the part or the turn that may follow k of them
abbrev pub Follows : Node → ℕ → NodeIx → Type 0
Follows (node.Seq ps) k p = slice_get ps k ≡ Some p
Follows (node.Rep least most inner) k p = (inner ≡ p) × IsAtMost most (k + 1)
Follows _ k p = ⊥

-- a derivation by the rule reaches the node after the first i words
pub data Reached (L : Rules) (ws : Words) (r : RuleIx) : NodeIx → ℕ → Type 0 where
  at_start : {n : NodeIx} {i : ℕ} (rule : LinkedRule) → rule_at L r ≡ Some rule → n ≡ rule.body → i ≡ 0 → Reached L ws r n i
  at_alternative : {n : NodeIx} {i : ℕ} (above : NodeIx) (ps : List NodeIx) (k : ℕ) → Reached L ws r above i →
      node_at L above ≡ Some (node.Alt ps) → slice_get ps k ≡ Some n → Reached L ws r n i
  at_reference : {n : NodeIx} {i : ℕ} (above : NodeIx) (q : RuleIx) (rule : LinkedRule) → Reached L ws r above i →
      node_at L above ≡ Some (node.Ref q) → rule_at L q ≡ Some rule → n ≡ rule.body → Reached L ws r n i
  at_front : {n : NodeIx} {i : ℕ} (above : NodeIx) (x : Node) (k j : ℕ) → Reached L ws r above j →
      node_at L above ≡ Some x → Follows x k n → Front L ws x k j i → Reached L ws r n i
