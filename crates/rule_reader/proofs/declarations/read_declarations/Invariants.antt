use Rattle.std.proofs.Common.{take, drop}
use Rattle.rule_reader.specs.code.Walks.{DeclarationsSoFar}
use Rattle.rule_reader.proofs.declarations.read_declarations.Given as goal

abbrev pub invariant-loop-at : goal.invariant-loop-at
invariant-loop-at l = DeclarationsSoFar l.text l.declarations (take l.at l.declarations) (drop l.at l.declarations) l.fn.found l.found
