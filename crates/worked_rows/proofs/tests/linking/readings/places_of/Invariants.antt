use Rattle.std.proofs.Common.{◌≡◌, take}
use Rattle.linker.specs.Readings.{staged}
use Rattle.worked_rows.proofs.tests.linking.readings.places_of.Given as goal

abbrev pub invariant-loop-entry : goal.invariant-loop-entry
invariant-loop-entry l = l.places.items ≡ staged l.set (take l.entry-index l.entries)
