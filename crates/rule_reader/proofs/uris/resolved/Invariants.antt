use Rattle.std.proofs.Common.{◌≡◌, [], take, map}
use Rattle.std.specs.Map.Iter.{deref}
use Rattle.rule_reader.specs.Imports.{extended}
use Rattle.rule_reader.proofs.uris.resolved.Given as goal

abbrev pub invariant-loop-uri : goal.invariant-loop-uri
invariant-loop-uri l = l.keys.keys ≡ extended l.base [] (map deref (take l.uri-index l.uris))
