use Rattle.std.specs.Map.Iter.{deref}
use Rattle.rule_reader.proofs.UriLemmas.{of_one}
use Rattle.rule_reader.proofs.uris.resolved.Goals as goal

pub read-requires : goal.read-requires
read-requires c = of_one deref c.args.uris.now c.loop-uri.uri-index c.uri-item.result c.loop-uri-test.true c.uri-item.is c.requires.readable
