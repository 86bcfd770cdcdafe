use Rattle.std.proofs.Common.{◌+◌, map, take}
use Rattle.grammar_tree.specs.ReadingOrder.{AreSubtrees}
use Rattle.self_derivation.proofs.tests.+subtree_end.Given as goal

abbrev pub decreases-subtree_end : goal.decreases-subtree_end
decreases-subtree_end l = l.levels

abbrev pub invariant-loop-part : goal.invariant-loop-part
invariant-loop-part l = AreSubtrees l.nodes (map (λ p. p) (take l.part-index l.all)) (l.fn.n.0 + 1) l.end
