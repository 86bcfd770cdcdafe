use Rattle.std.proofs.Common.{take}
use Rattle.std.specs.List.{All}
use Rattle.grammar_tree.specs.Links.{RefersBelow}
use Rattle.self_derivation.proofs.tests.refer_below.Given as goal

abbrev pub invariant-loop-node : goal.invariant-loop-node
invariant-loop-node l = All (RefersBelow l.count) (take l.node-index l.nodes)
