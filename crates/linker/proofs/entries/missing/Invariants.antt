use Rattle.std.proofs.Common.{◌≡◌, take}
use Rattle.linker.specs.Readings.{missing}
use Rattle.linker.proofs.entries.missing.Given as goal

abbrev pub invariant-loop-entry : goal.invariant-loop-entry
invariant-loop-entry l = l.found.keys ≡ missing l.set (take l.entry-index l.entries)
