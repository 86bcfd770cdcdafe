use Rattle.std.proofs.Common.{drop}
use Rattle.rule_reader.specs.code.Walks.{NamesSoFar}
use Rattle.rule_reader.proofs.names.read_names.Given as goal

abbrev pub invariant-loop-rule : goal.invariant-loop-rule
invariant-loop-rule l = NamesSoFar l.text l.rules (drop l.rule-index l.rules) l.names l.fn.found l.found
