use Rattle.abnf_lexer.proofs.InsideForms.{some_inside, one_inside}
use Rattle.abnf_lexer.proofs.laws.lexemes_have_one_inside.Goals as goal

pub returns : goal.returns
returns c = record { some = some_inside; one = one_inside }
