use Rattle.std.proofs.Common.{◌≡◌, ◌++◌, take, map}
use Rattle.std.specs.Map.Iter.{deref}
use Rattle.rule_reader.specs.Imports.{uris_of}
use Rattle.rule_reader.proofs.uris.add_uris_of.Given as goal

abbrev pub invariant-loop-rule : goal.invariant-loop-rule
invariant-loop-rule l = map deref l.uris.items ≡ map deref l.initial.uris.items ++ uris_of (take l.rule-index l.rules)
