use Rattle.abnf_parser.proofs.OneAnswer.{some_reading, one_reading}
use Rattle.abnf_parser.proofs.laws.lexemes_have_one_answer.Goals as goal

pub returns : goal.returns
returns c = record { some = some_reading; one = one_reading }
