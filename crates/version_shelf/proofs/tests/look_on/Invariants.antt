use Rattle.version_shelf.specs.Ends.{IsReaderOf}
use Rattle.version_shelf.proofs.tests.look_on.Given as goal

abbrev pub invariant-loop : goal.invariant-loop
invariant-loop l = IsReaderOf l.shelf l.lane.reader
