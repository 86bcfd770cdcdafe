use Rattle.std.proofs.Common.{List, length}
use Rattle.vg_base.specs.Cut.{Piece}
use Rattle.abnf_lexer.specs.declared.lexemes.PieceKind.{PieceKind}
use Rattle.abnf_lexer.proofs.Next.{Passes}
use Rattle.abnf_lexer.proofs.tally.tally_of.Given as goal

abbrev pub invariant-loop-cut : goal.invariant-loop-cut
invariant-loop-cut l = (pieces : List (Piece PieceKind)) × Passes l.fn.cursor l.cursor l.tally pieces

abbrev pub decreases-loop-cut : goal.decreases-loop-cut
decreases-loop-cut l = length l.cursor.rest
