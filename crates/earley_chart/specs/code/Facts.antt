-- The facts that a run has found: when each is right, and when nothing is left to be followed up.
use Rattle.std.specs.Prelude.{ℕ, ◌≡◌, ◌≢◌, ◌≤◌, ◌<◌, ◌+◌, Bool, List, Option, Some, length, slice_get}
use Rattle.vg_base.specs.declared.numbers.NodeIx.{NodeIx}
use Rattle.vg_base.specs.declared.numbers.RuleIx.{RuleIx}
use Rattle.grammar_tree.specs.declared.expansion.TagNode.{TagNode}
use Rattle.grammar_tree.specs.declared.linked.Node.{Node}
use Rattle.grammar_tree.specs.declared.linked.Node.TheVariants as node
use Rattle.grammar_tree.specs.declared.linked.LinkedRule.{LinkedRule}
use Rattle.grammar_tree.specs.Links.{Rules, node_at, rule_at}
use Rattle.grammar_tree.specs.Derives.{Words, IsAtMost}
use Rattle.earley_chart.specs.code.Reads.{Reads}
use Rattle.earley_chart.specs.code.Steps.{Leads, Stands, Met, next_level}

-- goals, where they end, and where their items stand
pub record Facts : Type 1 where
  pub goal : NodeIx → ℕ → Type 0
  pub ends : NodeIx → ℕ → ℕ → Type 0
  pub stands : NodeIx → ℕ → ℕ → ℕ → Type 0

-- behind k parts the sequence stands, or ends where these are all
abbrev pub Behind : Facts → NodeIx → List NodeIx → ℕ → ℕ → ℕ → Type 0
Behind F n ps k i j = (k < length ps → F.stands n k i j) × (k ≡ length ps → F.ends n i j)

module _ (L : Rules) (ws : Words) (goes_on : Bool) (r : RuleIx) (F : Facts) where
  -- each fact is right
  pub record AreRight : Type 0 where
    pub goals : (n : NodeIx) (i : ℕ) → F.goal n i → Met L ws goes_on r n i
    pub ends : (n : NodeIx) (i j : ℕ) → F.ends n i j → Leads L ws goes_on n i j
    pub stands : (n : NodeIx) (k i j : ℕ) → F.stands n k i j → (x : Node) × (node_at L n ≡ Some x) × Stands L ws goes_on x k i j

  -- each step from these facts leads to one of them
  pub record AreClosed : Type 0 where
    pub body : (rule : LinkedRule) → rule_at L r ≡ Some rule → F.goal rule.body 0
    pub token : (n : NodeIx) (us : Words) (i j : ℕ) → F.goal n i → node_at L n ≡ Some (node.Token us) → Reads ws goes_on i us j → F.ends n i j
    pub tag : (n : NodeIx) (tag : TagNode) (i : ℕ) → F.goal n i → node_at L n ≡ Some (node.Tag tag) → F.ends n i i
    pub null : (n : NodeIx) (i : ℕ) → F.goal n i → node_at L n ≡ Some node.Null → F.ends n i i
    pub garbage : (n : NodeIx) (us : Words) (i j : ℕ) → F.goal n i → node_at L n ≡ Some node.Garbage → Reads ws goes_on i us j → F.ends n i j
    pub alternative : (n : NodeIx) (ps : List NodeIx) (k : ℕ) (p : NodeIx) (i : ℕ) → F.goal n i → node_at L n ≡ Some (node.Alt ps) →
        slice_get ps k ≡ Some p → F.goal p i × ((j : ℕ) → F.ends p i j → F.ends n i j)
    pub reference : (n : NodeIx) (q : RuleIx) (rule : LinkedRule) (i : ℕ) → F.goal n i → node_at L n ≡ Some (node.Ref q) →
        rule_at L q ≡ Some rule → F.goal rule.body i × ((j : ℕ) → F.ends rule.body i j → F.ends n i j)
    pub no_part : (n : NodeIx) (ps : List NodeIx) (i : ℕ) → F.goal n i → node_at L n ≡ Some (node.Seq ps) → Behind F n ps 0 i i
    pub part : (n : NodeIx) (ps : List NodeIx) (k : ℕ) (p : NodeIx) (i m : ℕ) → F.stands n k i m → node_at L n ≡ Some (node.Seq ps) →
        slice_get ps k ≡ Some p → F.goal p m × ((j : ℕ) → F.ends p m j → Behind F n ps (k + 1) i j)
    pub no_turn : (n : NodeIx) (least : ℕ) (most : Option ℕ) (p : NodeIx) (i : ℕ) → F.goal n i → node_at L n ≡ Some (node.Rep least most p) →
        F.stands n 0 i i
    pub turn : (n : NodeIx) (least : ℕ) (most : Option ℕ) (p : NodeIx) (k i m : ℕ) → F.stands n k i m → node_at L n ≡ Some (node.Rep least most p) →
        IsAtMost most (k + 1) → F.goal p m × ((j : ℕ) → F.ends p m j → m ≢ j → F.stands n (next_level least most k) i j)
    pub enough : (n : NodeIx) (least : ℕ) (most : Option ℕ) (p : NodeIx) (k i j : ℕ) → F.stands n k i j → node_at L n ≡ Some (node.Rep least most p) →
        least ≤ k → F.ends n i j
    pub filled : (n : NodeIx) (least : ℕ) (most : Option ℕ) (p : NodeIx) (k i j : ℕ) → F.stands n k i j → node_at L n ≡ Some (node.Rep least most p) →
        IsAtMost most least → F.ends p j j → F.ends n i j
