-- When a node derives no word, by its kind.
use Rattle.std.specs.Prelude.{◌≡◌, ◌⊎◌, ◌↔◌, [], Some, ⊤}
use Rattle.std.specs.List.{All, Any}
use Rattle.vg_base.specs.declared.numbers.NodeIx.{NodeIx}
use Rattle.grammar_tree.specs.declared.linked.Node.{Node}
use Rattle.grammar_tree.specs.declared.linked.Node.TheVariants as node
use Rattle.grammar_tree.specs.Links.{Rules, node_at}
use Rattle.grammar_tree.specs.Derives.{IsAtMost, CanBeEmpty, OfBody}

abbrev pub EmptyCase : Rules → Node → Type 0
EmptyCase L (node.Token words) = words ≡ []
EmptyCase L (node.Seq ps) = All (λ p. CanBeEmpty L p) ps
EmptyCase L (node.Alt ps) = Any (λ p. CanBeEmpty L p) ps
-- turns past the least have words, so an empty repeat has its least of turns; a most below it allows none
EmptyCase L (node.Rep least most p) = IsAtMost most least × ((least ≡ 0) ⊎ CanBeEmpty L p)
EmptyCase L (node.Ref r) = OfBody L r (λ n. CanBeEmpty L n)
EmptyCase L (node.Tag tag) = ⊤
EmptyCase L node.Null = ⊤
EmptyCase L node.Void = ⊥
EmptyCase L node.Garbage = ⊤

abbrev pub EmptyByKind : Type 0
EmptyByKind = (L : Rules) (n : NodeIx) (x : Node) → node_at L n ≡ Some x → CanBeEmpty L n ↔ EmptyCase L x
