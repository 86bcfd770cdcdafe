use Rattle.std.proofs.Common.{◌≡◌, ◌+◌, ◌≤◌}
use Rattle.version_shelf.specs.Ends.{IsPublisherOf, published}
use Rattle.version_shelf.proofs.tests.publish_all.Given as goal

abbrev pub invariant-loop-i : goal.invariant-loop-i
invariant-loop-i l = record {
  of : IsPublisherOf l.shelf l.publisher;
  count : published l.publisher ≤ published l.fn.publisher + l.i;
}
