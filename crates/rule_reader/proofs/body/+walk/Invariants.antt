use Rattle.std.specs.Prelude.{All}
use Rattle.std.proofs.Common.{take}
use Rattle.rule_reader.specs.code.Walks.{BodyShown, PartsWalked}
use Rattle.rule_reader.proofs.body.+walk.Given as goal

abbrev pub invariant-read_parts-loop-part : goal.invariant-read_parts-loop-part
invariant-read_parts-loop-part l = PartsWalked l.text l.context (take l.part-index l.parts) l.fn.found l.found l.read × All (BodyShown l.text) l.parts
