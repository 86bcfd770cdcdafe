use Rattle.std.proofs.Common.{◌≡◌, ◌-◌, false, Some, drop, length}
use Rattle.rule_reader.specs.code.Contexts.{stands_among}
use Rattle.rule_reader.proofs.declarations.is_among.Given as goal

abbrev pub invariant-loop-back : goal.invariant-loop-back
invariant-loop-back l = stands_among (Some l.kind) (drop (length l.before - l.back) l.before) ≡ false
