use Rattle.abnf_lexer.proofs.OneAnswer.{one_list, one_spelling, one_fault, no_both, some_answer}
use Rattle.abnf_lexer.proofs.laws.texts_have_one_answer.Goals as goal

pub returns : goal.returns
returns c = record { some = some_answer; spans = one_list; lexemes = one_spelling; faults = one_fault; apart = no_both }
