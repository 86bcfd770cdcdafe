-- What a node of linked rules derives, and by which tree (SRGS 1.0, section 2).
use Rattle.std.specs.Prelude.{ℕ, ◌≡◌, ◌≢◌, ◌≤◌, ◌-◌, List, [], ◌∷◌, ◌++◌, Option, Some, None, length, slice_get}
use Rattle.vg_base.specs.declared.numbers.NodeIx.{NodeIx}
use Rattle.vg_base.specs.declared.numbers.RuleIx.{RuleIx}
use Rattle.grammar_tree.specs.declared.expansion.TagNode.{TagNode}
use Rattle.grammar_tree.specs.declared.linked.LinkedRule.{LinkedRule}
use Rattle.grammar_tree.specs.declared.linked.Node.TheVariants as node
use Rattle.grammar_tree.specs.declared.parse_tree.ParseTree.{ParseTree}
use Rattle.grammar_tree.specs.declared.parse_tree.ParseTree.TheVariants as tree
use Rattle.grammar_tree.specs.Links.{Rules, node_at, rule_at}

-- a word is the list of its characters
abbrev pub Words : Type 0
Words = List (List ℕ)

-- a repeat without a most takes any number of turns
abbrev pub IsAtMost : Option ℕ → ℕ → Type 0
IsAtMost None turns = Unit {0}
IsAtMost (Some most) turns = turns ≤ most

mutual
  -- the node derives the words by the tree; $VOID derives nothing
  pub data Derives (L : Rules) : NodeIx → Words → ParseTree → Type 0 where
    by_token : {n : NodeIx} {ws : Words} {t : ParseTree} → node_at L n ≡ Some (node.Token ws) → t ≡ tree.Token ws → Derives L n ws t
    by_seq : {n : NodeIx} {ws : Words} {t : ParseTree} (ps : List NodeIx) (ts : List ParseTree) →
        node_at L n ≡ Some (node.Seq ps) → t ≡ tree.Seq ts → DerivesEach L ps ws ts → Derives L n ws t
    by_alt : {n : NodeIx} {ws : Words} {t : ParseTree} (ps : List NodeIx) (taken : ℕ) (p : NodeIx) (u : ParseTree) →
        node_at L n ≡ Some (node.Alt ps) → slice_get ps taken ≡ Some p → t ≡ tree.Alt taken u → Derives L p ws u → Derives L n ws t
    by_rep : {n : NodeIx} {ws : Words} {t : ParseTree} (least : ℕ) (most : Option ℕ) (p : NodeIx) (ts : List ParseTree) →
        node_at L n ≡ Some (node.Rep least most p) → t ≡ tree.Rep ts → least ≤ length ts → IsAtMost most (length ts) →
        DerivesTurns L p least ws ts → Derives L n ws t
    by_ref : {n : NodeIx} {ws : Words} {t : ParseTree} (r : RuleIx) (rule : LinkedRule) (u : ParseTree) →
        node_at L n ≡ Some (node.Ref r) → rule_at L r ≡ Some rule → t ≡ tree.Rule r u → Derives L rule.body ws u → Derives L n ws t
    by_tag : {n : NodeIx} {ws : Words} {t : ParseTree} (tag : TagNode) → node_at L n ≡ Some (node.Tag tag) → ws ≡ [] → t ≡ tree.Tag n → Derives L n ws t
    by_null : {n : NodeIx} {ws : Words} {t : ParseTree} → node_at L n ≡ Some node.Null → ws ≡ [] → t ≡ tree.Null → Derives L n ws t
    by_garbage : {n : NodeIx} {ws : Words} {t : ParseTree} → node_at L n ≡ Some node.Garbage → t ≡ tree.Garbage ws → Derives L n ws t

  -- the parts derive the words, one after another, each by its tree
  pub data DerivesEach (L : Rules) : List NodeIx → Words → List ParseTree → Type 0 where
    no_part : {ws : Words} → ws ≡ [] → DerivesEach L [] ws []
    part : {p : NodeIx} {ps : List NodeIx} {ws : Words} {t : ParseTree} {ts : List ParseTree} (front rest : Words) →
        ws ≡ front ++ rest → Derives L p front t → DerivesEach L ps rest ts → DerivesEach L (p ∷ ps) ws (t ∷ ts)

  -- turns of one node derive the words, one after another: the first `free` turns may be empty, each later one has a word
  pub data DerivesTurns (L : Rules) : NodeIx → ℕ → Words → List ParseTree → Type 0 where
    no_turn : {p : NodeIx} {free : ℕ} {ws : Words} → ws ≡ [] → DerivesTurns L p free ws []
    turn : {p : NodeIx} {free : ℕ} {ws : Words} {t : ParseTree} {ts : List ParseTree} (front rest : Words) →
        ws ≡ front ++ rest → (free ≡ 0 → front ≢ []) → Derives L p front t → DerivesTurns L p (free - 1) rest ts → DerivesTurns L p free ws (t ∷ ts)

-- the node derives the words
abbrev pub HasTree : Rules → NodeIx → Words → Type 0
HasTree L n ws = (t : ParseTree) × Derives L n ws t

abbrev pub CanBeEmpty : Rules → NodeIx → Type 0
CanBeEmpty L n = HasTree L n []

-- what holds of a rule's body; so a rule derives what its body derives, and a tree of a rule is a tree of its body
abbrev pub OfBody : Rules → RuleIx → (NodeIx → Type 0) → Type 0
OfBody L r P = (rule : LinkedRule) × (rule_at L r ≡ Some rule) × P rule.body

abbrev pub RuleHasTree : Rules → RuleIx → Words → Type 0
RuleHasTree L r ws = OfBody L r (λ n. HasTree L n ws)

abbrev pub RuleDerives : Rules → RuleIx → Words → ParseTree → Type 0
RuleDerives L r ws t = OfBody L r (λ n. Derives L n ws t)
