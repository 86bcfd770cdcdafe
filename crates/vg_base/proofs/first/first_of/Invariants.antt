use Rattle.std.proofs.Common.{take}
use Rattle.vg_base.specs.First.{IsFirst}
use Rattle.vg_base.proofs.first.first_of.Given as goal

abbrev pub invariant-loop-fault : goal.invariant-loop-fault
invariant-loop-fault g l = IsFirst g.F.Ord.cmp (take l.fault-index l.faults) l.first
