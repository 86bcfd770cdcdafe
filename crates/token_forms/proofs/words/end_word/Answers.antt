use Rattle.std.proofs.Common.{◌≡◌, length, ap, arith}
use Rattle.std.proofs.lemmas.Str.{length-le-encodes}
use Rattle.std.proofs.lemmas.Bool.Decides.{nat_tests}
use Rattle.token_forms.proofs.words.end_word.Goals as goal

pub returns-else-not-is_empty-clause-one : goal.returns-else-not-is_empty-clause-one
returns-else-not-is_empty-clause-one c = λ some.
    let none : length c.as_str.result.now ≡ 0 = grind (arith, nat_tests, c.if-not-is_empty.false, c.is_empty.ensures) in
    absurd (omega (arith, some, none, ap length c.as_str.ensures.bytes, length-le-encodes c.args.word))
