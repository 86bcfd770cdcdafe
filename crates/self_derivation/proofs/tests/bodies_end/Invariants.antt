use Rattle.std.proofs.Common.{map, take}
use Rattle.grammar_tree.specs.ReadingOrder.{AreSubtrees}
use Rattle.self_derivation.proofs.tests.bodies_end.Given as goal

abbrev pub invariant-loop-rule : goal.invariant-loop-rule
invariant-loop-rule l = AreSubtrees l.nodes (map (λ r. r.body) (take l.rule-index l.rules)) 0 l.end
