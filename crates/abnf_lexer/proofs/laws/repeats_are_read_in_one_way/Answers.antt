use Rattle.abnf_lexer.proofs.OneRepeat.{one_repeat}
use Rattle.abnf_lexer.proofs.laws.repeats_are_read_in_one_way.Goals as goal

pub returns : goal.returns
returns c = λ slice these those most others chance other h k. one_repeat slice these those most others chance other h k
