use Rattle.abnf_parser.proofs.OneAnswer.{some_answer_of, one_answer}
use Rattle.abnf_parser.proofs.laws.texts_have_one_answer.Goals as goal

pub returns : goal.returns
returns c = record { some = some_answer_of; one = one_answer }
