use Rattle.std.proofs.Common.{take}
use Rattle.import_closure.specs.code.Reach.{Met}
use Rattle.import_closure.proofs.reach.Reach.meet_all.Given as goal

abbrev pub invariant-loop-y : goal.invariant-loop-y
invariant-loop-y l = Met (take l.y-index l.row) l.initial.self l.self
