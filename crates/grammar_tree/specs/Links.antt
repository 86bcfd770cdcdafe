-- Linked rules as plain data, and what their type keeps of them.
use Rattle.std.specs.Prelude.{◌≡◌, ℕ, ◌<◌, ◌≤◌, ◌^◌, List, [], ◌∷◌, ◌++◌, length, map, slice_get, count_by, ◌==◌, Some, Option, ⊤}
use Rattle.std.specs.List.{All, flat_map}
use Rattle.vg_base.specs.declared.numbers.NodeIx.{NodeIx}
use Rattle.vg_base.specs.declared.numbers.RuleIx.{RuleIx}
use Rattle.grammar_tree.specs.declared.linked.Node.{Node}
use Rattle.grammar_tree.specs.declared.linked.Node.TheVariants.{Token, Seq, Alt, Rep, Ref, Tag, Null, Void, Garbage}
use Rattle.grammar_tree.specs.declared.linked.LinkedRule.{LinkedRule}

pub record Rules : Type 0 where
  pub nodes : List Node
  pub rules : List LinkedRule

abbrev pub node_at : Rules → NodeIx → Option Node
node_at l n = slice_get l.nodes n.0

abbrev pub rule_at : Rules → RuleIx → Option LinkedRule
rule_at l r = slice_get l.rules r.0

-- the numbers of a node's parts, in reading order
abbrev pub parts : Node → List NodeIx
parts (Seq all) = all
parts (Alt all) = all
parts (Rep least most inner) = inner ∷ []
parts (Token words) = []
parts (Ref rule) = []
parts (Tag tag) = []
parts Null = []
parts Void = []
parts Garbage = []

-- a reference is to one of so many rules
abbrev pub RefersBelow : ℕ → Node → Type 0
RefersBelow count (Ref rule) = rule.0 < count
RefersBelow count _ = ⊤

-- every number by which a node is named: as the body of a rule, or as a part of a node
abbrev pub mentions : Rules → List ℕ
mentions l = map (λ r. r.body.0) l.rules ++ map (λ x. x.0) (flat_map parts l.nodes)

pub record IsLinked (l : Rules) : Type 0 where
  pub few : length l.nodes ≤ 2 ^ 32
  pub bodies : All (λ r. r.body.0 < length l.nodes) l.rules
  pub refers : All (RefersBelow (length l.rules)) l.nodes
  -- a part's number is in range and above its node's
  pub rises : (n : ℕ) (node : Node) → slice_get l.nodes n ≡ Some node → All (λ part. (n < part.0) × (part.0 < length l.nodes)) (parts node)
  -- each node is the body of one rule, or a part of one node
  pub once : (n : ℕ) → n < length l.nodes → count_by (λ m. m == n) (mentions l) ≡ 1
