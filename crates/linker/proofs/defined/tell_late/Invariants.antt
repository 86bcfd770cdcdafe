use Rattle.std.proofs.Common.{List}
use Rattle.linker.specs.Numbers.{Definition}
use Rattle.linker.specs.code.Late.{AreDefined, TellsSoFar}
use Rattle.linker.proofs.defined.tell_late.Given as goal

abbrev pub invariant-loop-r : goal.invariant-loop-r
invariant-loop-r l = (definitions : List Definition) → AreDefined l.set definitions l.defined → TellsSoFar l.linked definitions l.fn.faults l.r l.before l.faults
