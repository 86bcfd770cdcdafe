use Rattle.std.proofs.Common.{take}
use Rattle.rule_reader.specs.code.Walks.{RulesRead}
use Rattle.rule_reader.proofs.rules.read_rules.Given as goal

abbrev pub invariant-loop-rule : goal.invariant-loop-rule
invariant-loop-rule l = RulesRead l.text l.context (take l.rule-index l.written) l.fn.found l.found l.rules
