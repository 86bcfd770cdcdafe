use Rattle.std.proofs.Common.{take}
use Rattle.self_derivation.specs.code.Search.{Counted}
use Rattle.self_derivation.proofs.empty.Search.count_each.Given as goal

abbrev pub invariant-loop-n : goal.invariant-loop-n
invariant-loop-n l = Counted (take l.n-index l.nodes) l.initial.self l.self
