use Rattle.std.proofs.Common.{◌≡◌, take}
use Rattle.import_closure.specs.code.Marks.{places_from}
use Rattle.import_closure.proofs.marks.places.Given as goal

abbrev pub invariant-loop-y : goal.invariant-loop-y
invariant-loop-y l = l.docs.items ≡ places_from 0 (take l.y l.marks)
