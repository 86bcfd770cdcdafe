use Rattle.worked_rows.proofs.ReadingLemmas.{AreRead}
use Rattle.worked_rows.proofs.tests.linking.readings.read_needed.Given as goal

abbrev pub invariant-loop-place : goal.invariant-loop-place
invariant-loop-place l = AreRead l.set l.needed l.place l.docs.items
