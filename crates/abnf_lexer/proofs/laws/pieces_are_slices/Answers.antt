use Rattle.abnf_lexer.proofs.Spans.{parts_in}
use Rattle.abnf_lexer.proofs.laws.pieces_are_slices.Goals as goal

pub returns : goal.returns
returns c = parts_in
