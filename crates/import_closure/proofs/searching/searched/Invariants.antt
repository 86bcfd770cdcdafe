use Rattle.import_closure.specs.code.Reach.{IsWithin, work}
use Rattle.import_closure.proofs.searching.searched.Given as goal

abbrev pub invariant-loop-x : goal.invariant-loop-x
invariant-loop-x l = IsWithin l.set l.entries l.reach

abbrev pub decreases-loop-x : goal.decreases-loop-x
decreases-loop-x l = work l.reach
