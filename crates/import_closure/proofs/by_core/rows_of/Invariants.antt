use Rattle.import_closure.specs.code.Cores.{AreFirstRows}
use Rattle.import_closure.proofs.by_core.rows_of.Given as goal

abbrev pub invariant-loop-x : goal.invariant-loop-x
invariant-loop-x l = AreFirstRows l.set l.x l.rows
