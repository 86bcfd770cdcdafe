use Rattle.std.proofs.Common.{◌≡◌, [], length}
use Rattle.std.specs.Str.{IsUtf8}
use Rattle.std.specs.String.{string_bytes}
use Rattle.uri_links.proofs.DotsLemmas.{removed}
use Rattle.uri_links.proofs.dots.without_dot_segments.Given as goal

abbrev pub invariant-loop-rest : goal.invariant-loop-rest
invariant-loop-rest l = record {
  utf8 : IsUtf8 l.rest;
  same : removed l.path [] ≡ removed l.rest (string_bytes l.output);
}

abbrev pub decreases-loop-rest : goal.decreases-loop-rest
decreases-loop-rest l = length l.rest
