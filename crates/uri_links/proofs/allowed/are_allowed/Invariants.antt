use Rattle.std.proofs.Common.{◌≡◌, length}
use Rattle.uri_links.specs.Allowed.{are_allowed}
use Rattle.uri_links.proofs.allowed.are_allowed.Given as goal

abbrev pub invariant-loop-c : goal.invariant-loop-c
invariant-loop-c l = are_allowed l.also l.text ≡ are_allowed l.also l.rest

abbrev pub decreases-loop-c : goal.decreases-loop-c
decreases-loop-c l = length l.rest
