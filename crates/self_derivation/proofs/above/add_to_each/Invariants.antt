use Rattle.std.proofs.Common.{take}
use Rattle.self_derivation.specs.code.Above.{Added}
use Rattle.self_derivation.proofs.above.add_to_each.Given as goal

abbrev pub invariant-loop-p : goal.invariant-loop-p
invariant-loop-p l = Added l.n (take l.p-index l.named) l.initial.rows l.rows
