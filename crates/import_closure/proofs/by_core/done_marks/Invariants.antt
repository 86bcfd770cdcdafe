use Rattle.std.proofs.Common.{◌≡◌, take}
use Rattle.import_closure.specs.code.Cores.{done_marks}
use Rattle.import_closure.proofs.by_core.done_marks.Given as goal

abbrev pub invariant-loop-y : goal.invariant-loop-y
invariant-loop-y l = l.marks.items ≡ done_marks (take l.y l.core.docs)
