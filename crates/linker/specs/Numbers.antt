-- The linked rules of a set: its rules in order, and their expansions as numbered nodes.
use Rattle.std.specs.Prelude.{◌≡◌, ◌+◌, ℕ, List, [], ◌∷◌, ◌++◌, Option, Some, None, length, map}
use Rattle.vg_base.specs.declared.numbers.DocIx.{DocIx}
use Rattle.vg_base.specs.declared.numbers.NodeIx.{NodeIx}
use Rattle.vg_base.specs.declared.numbers.RuleIx.{RuleIx}
use Rattle.grammar_tree.specs.declared.doc_set.DocText.{DocText}
use Rattle.grammar_tree.specs.declared.document.Doc.{Doc}
use Rattle.grammar_tree.specs.declared.document.Rule.{Rule}
use Rattle.grammar_tree.specs.declared.document.ReadDoc.TheVariants as read
use Rattle.grammar_tree.specs.declared.expansion.Goal.{Goal}
use Rattle.grammar_tree.specs.declared.expansion.Expansion.{Expansion}
use Rattle.grammar_tree.specs.declared.expansion.Expansion.TheOpen.{Expansion-F}
use Rattle.grammar_tree.specs.declared.expansion.Expansion.TheFolds.{fold-Expansion}
use Rattle.grammar_tree.specs.declared.linked.Node.{Node}
use Rattle.grammar_tree.specs.declared.linked.Node.TheVariants as node
use Rattle.grammar_tree.specs.declared.linked.LinkedRule.{LinkedRule}
use Rattle.grammar_tree.specs.Links.{Rules}
use Rattle.linker.specs.declared.target.Target.{Target}
use Rattle.linker.specs.declared.target.Target.TheVariants as target
use Rattle.linker.specs.Readings.{Readings}
use Rattle.linker.specs.Targets as targets

-- ---- definitions of rules

-- a rule where it is defined: the place and the key of its document in the set, the document, and its number among those that are linked
pub record Definition : Type 0 where
  pub x : ℕ
  pub key : List ℕ
  pub own : Doc
  pub doc : DocIx
  pub rule : Rule

-- all of them, document by document, in written order; the documents that were read are numbered from 0
abbrev pub definitions_from : (x number : ℕ) → List DocText → Readings → List Definition
definitions_from x number (staged ∷ set) (Some (read.Good own) ∷ docs) =
    map (λ rule. record { x = x; key = staged.key; own = own; doc = record { 0 = number }; rule = rule }) own.rules ++ definitions_from (x + 1) (number + 1) set docs
definitions_from x number (staged ∷ set) (reading ∷ docs) = definitions_from (x + 1) number set docs
definitions_from x number _ _ = []

abbrev pub definitions : List DocText → Readings → List Definition
definitions = definitions_from 0 0

-- ---- nodes

-- the nodes of an expansion, the first of which has this number
abbrev pub Laid : Type 0
Laid = ℕ → List Node

-- expansions one after another from a number on: the number of each, and the nodes of all
abbrev pub starts : ℕ → List Laid → List NodeIx
starts n [] = []
starts n (one ∷ others) = record { 0 = n } ∷ starts (n + length (one n)) others

abbrev pub one_by_one : ℕ → List Laid → List Node
one_by_one n [] = []
one_by_one n (one ∷ others) = one n ++ one_by_one (n + length (one n)) others

-- one level: the node itself, and behind it those of its parts in reading order
abbrev pub laid_of_level : (Goal → RuleIx) → Expansion-F Laid → Laid
laid_of_level means (Expansion-F.Token words) n = node.Token words ∷ []
laid_of_level means (Expansion-F.Seq parts) n = node.Seq (starts (n + 1) parts) ∷ one_by_one (n + 1) parts
laid_of_level means (Expansion-F.Alt parts) n = node.Alt (starts (n + 1) parts) ∷ one_by_one (n + 1) parts
laid_of_level means (Expansion-F.Rep least most inner) n = node.Rep least most (record { 0 = n + 1 }) ∷ inner (n + 1)
laid_of_level means (Expansion-F.Ref reference) n = node.Ref (means reference.goal) ∷ []
laid_of_level means (Expansion-F.Tag tag) n = node.Tag tag ∷ []
laid_of_level means Expansion-F.Null n = node.Null ∷ []
laid_of_level means Expansion-F.Void n = node.Void ∷ []
laid_of_level means Expansion-F.Garbage n = node.Garbage ∷ []

abbrev pub laid : (Goal → RuleIx) → Expansion → Laid
laid means = fold-Expansion Laid (laid_of_level means)

-- ---- linked rules

-- the number of the rule that is meant; where none is, the set isn't linked, and the number says nothing
abbrev pub rule_meant : Target → RuleIx
rule_meant (target.Rule r) = r
rule_meant _ = record { 0 = 0 }

module _ (set : List DocText) (docs : Readings) where
  -- what the references in the definition mean
  abbrev pub meant_in : Definition → Goal → RuleIx
  meant_in d g = rule_meant (targets.target docs set d.x d.key d.own g)

  abbrev pub bodies : List Definition → List Laid
  bodies = map (λ d. laid (meant_in d) d.rule.body)

abbrev pub linked_rules : List Definition → List NodeIx → List LinkedRule
linked_rules (d ∷ definitions) (n ∷ starts) = record { doc = d.doc; name = d.rule.name; public = d.rule.public; body = n } ∷ linked_rules definitions starts
linked_rules _ _ = []

-- the linked rules of the set
abbrev pub numbers : List DocText → Readings → Rules
numbers set docs = record {
  nodes = one_by_one 0 (bodies set docs (definitions set docs));
  rules = linked_rules (definitions set docs) (starts 0 (bodies set docs (definitions set docs)));
}
