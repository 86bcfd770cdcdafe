use Rattle.std.proofs.Common.{◌≡◌, drop}
use Rattle.rule_reader.specs.code.Numbers.{compared}
use Rattle.rule_reader.proofs.numbers.compared.Given as goal

abbrev pub invariant-loop-at : goal.invariant-loop-at
invariant-loop-at l = compared l.order (drop l.at l.one) (drop l.at l.other) ≡ compared l.fn.before l.one l.other
