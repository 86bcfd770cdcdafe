use Rattle.std.proofs.Common.{◌≡◌, ◌≤◌, drop}
use Rattle.rule_reader.specs.code.Numbers.{capped}
use Rattle.rule_reader.proofs.numbers.capped_number.Given as goal

abbrev pub invariant-loop-digit : goal.invariant-loop-digit
invariant-loop-digit l = (l.number ≤ 65536) × (capped l.number (drop l.digit-index l.digits) ≡ capped 0 l.digits)
