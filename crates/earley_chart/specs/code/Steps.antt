-- What nodes, parts and turns derive from place to place, and which nodes are met (Earley 1970: what an item means).
use Rattle.std.specs.Prelude.{ℕ, zero, suc, ◌≡◌, ◌≢◌, ◌≤◌, ◌+◌, min, Bool, List, Option, Some, None, length, take, slice_get, nat_lt, if◌then◌else◌}
use Rattle.vg_base.specs.declared.numbers.NodeIx.{NodeIx}
use Rattle.vg_base.specs.declared.numbers.RuleIx.{RuleIx}
use Rattle.grammar_tree.specs.declared.linked.Node.{Node}
use Rattle.grammar_tree.specs.declared.linked.Node.TheVariants as node
use Rattle.grammar_tree.specs.declared.linked.LinkedRule.{LinkedRule}
use Rattle.grammar_tree.specs.declared.parse_tree.ParseTree.{ParseTree}
use Rattle.grammar_tree.specs.Links.{Rules, node_at, rule_at}
use Rattle.grammar_tree.specs.Derives.{Words, IsAtMost, HasTree, DerivesEach}
use Rattle.earley_chart.specs.code.Reads.{Reads}

-- how far turns are counted: to the least where there is no most
abbrev pub level : ℕ → Option ℕ → ℕ → ℕ
level least None turns = min turns least
level least (Some most) turns = turns

-- the count of one turn more
abbrev pub next_level : ℕ → Option ℕ → ℕ → ℕ
next_level least None k = if nat_lt k least then k + 1 else k
next_level least (Some most) k = k + 1

module _ (L : Rules) (ws : Words) (goes_on : Bool) where
  -- the node derives words that lead from i to j
  abbrev pub Leads : NodeIx → ℕ → ℕ → Type 0
  Leads n i j = (us : Words) × Reads ws goes_on i us j × HasTree L n us

  -- the first k parts derive words that lead from i to j
  abbrev pub PartsLead : List NodeIx → ℕ → ℕ → ℕ → Type 0
  PartsLead ps k i j = (us : Words) × Reads ws goes_on i us j × (k ≤ length ps) × ((ts : List ParseTree) × DerivesEach L (take k ps) us ts)

  -- so many turns lead from i to j, each to a further place
  abbrev pub FullTurns : NodeIx → ℕ → ℕ → ℕ → Type 0
  FullTurns p zero i j = i ≡ j
  FullTurns p (suc turns) i j = (m : ℕ) × FullTurns p turns i m × (m ≢ j) × Leads p m j

  abbrev pub TurnsLead : ℕ → Option ℕ → NodeIx → ℕ → ℕ → ℕ → Type 0
  TurnsLead least most p k i j = (turns : ℕ) × (k ≡ level least most turns) × IsAtMost most turns × FullTurns p turns i j

  -- what an item of the node with step k, from i to j, means
  abbrev pub Stands : Node → ℕ → ℕ → ℕ → Type 0
  Stands (node.Seq ps) k i j = PartsLead ps k i j
  Stands (node.Rep least most p) k i j = TurnsLead least most p k i j
  Stands _ k i j = ⊥

  -- a derivation by the rule meets the node at the place
  pub data Met (r : RuleIx) : NodeIx → ℕ → Type 0 where
    at_body : {n : NodeIx} {i : ℕ} (rule : LinkedRule) → rule_at L r ≡ Some rule → n ≡ rule.body → i ≡ 0 → Met r n i
    at_alternative : {n : NodeIx} {i : ℕ} (above : NodeIx) (ps : List NodeIx) (k : ℕ) → Met r above i →
        node_at L above ≡ Some (node.Alt ps) → slice_get ps k ≡ Some n → Met r n i
    at_reference : {n : NodeIx} {i : ℕ} (above : NodeIx) (q : RuleIx) (rule : LinkedRule) → Met r above i →
        node_at L above ≡ Some (node.Ref q) → rule_at L q ≡ Some rule → n ≡ rule.body → Met r n i
    at_part : {n : NodeIx} {i : ℕ} (above : NodeIx) (ps : List NodeIx) (k start : ℕ) → Met r above start →
        node_at L above ≡ Some (node.Seq ps) → slice_get ps k ≡ Some n → PartsLead ps k start i → Met r n i
    at_turn : {n : NodeIx} {i : ℕ} (above : NodeIx) (least : ℕ) (most : Option ℕ) (k start : ℕ) → Met r above start →
        node_at L above ≡ Some (node.Rep least most n) → TurnsLead least most n k start i → IsAtMost most (k + 1) → Met r n i
