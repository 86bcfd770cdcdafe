use Rattle.std.proofs.Common.{List, take, ◌++◌}
use Rattle.linker.specs.declared.set_fault.SetFault.{SetFault}
use Rattle.linker.specs.SetFaults.{entry_faults}
use Rattle.linker.specs.code.Tellings.{Keeps}
use Rattle.linker.proofs.entries.tell_absent.Given as goal

abbrev pub invariant-loop-key : goal.invariant-loop-key
invariant-loop-key l = (all : List SetFault) → Keeps all l.fn.faults → Keeps (all ++ entry_faults (take l.key-index l.keys)) l.faults
