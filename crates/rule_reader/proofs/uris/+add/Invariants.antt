use Rattle.std.proofs.Common.{◌≡◌, ◌++◌, take, map}
use Rattle.std.specs.List.{flat_map}
use Rattle.std.specs.Map.Iter.{deref}
use Rattle.rule_reader.specs.Imports.{uris_in}
use Rattle.rule_reader.proofs.uris.+add.Given as goal

abbrev pub invariant-add_uris_in_all-loop-part : goal.invariant-add_uris_in_all-loop-part
invariant-add_uris_in_all-loop-part l = map deref l.uris.items ≡ map deref l.initial.uris.items ++ flat_map uris_in (take l.part-index l.parts)
