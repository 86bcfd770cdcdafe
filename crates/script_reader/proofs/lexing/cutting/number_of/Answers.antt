use Rattle.script_reader.proofs.Numbers.{too_great}
use Rattle.script_reader.proofs.lexing.cutting.number_of.Goals as goal

pub returns-then-value-gt-SCRIPT_NUMBER : goal.returns-then-value-gt-SCRIPT_NUMBER
returns-then-value-gt-SCRIPT_NUMBER c =
    too_great c.args.digits.now c.loop-c.c-index c.loop-c.value _ _ c.loop-c-test.true c.c-item.is c.loop-c.invariant.0 c.digit_of.ensures.value c.if-value-gt-SCRIPT_NUMBER.true
