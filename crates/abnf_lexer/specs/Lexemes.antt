-- The pieces of a text behind its header, and which of them are lexemes.
use Rattle.std.specs.Prelude.{ℕ, Bool, true, false, List, ◌++◌, filter, Option, Some, None}
use Rattle.vg_base.specs.Characters.{byte_len}
use Rattle.vg_base.specs.Places.{Walked, place_after}
use Rattle.vg_base.specs.Cut.{Piece, characters, IsCut, Placed, placed}
use Rattle.abnf_lexer.specs.declared.lexemes.LexKind.{LexKind}
use Rattle.abnf_lexer.specs.declared.lexemes.PieceKind.{PieceKind}
use Rattle.abnf_lexer.specs.declared.lexemes.PieceKind.TheVariants.{Lexeme}
use Rattle.abnf_lexer.specs.declared.lexemes.Spanned.{Spanned}
use Rattle.abnf_lexer.specs.Forms.{HasForm}

-- from a place on the text is cut into these pieces, up to where none begins
pub record CutFrom (start : Walked) : Type 0 where
  pub pieces : List (Piece PieceKind)
  pub stop : List ℕ
  pub is_cut : IsCut HasForm start.rest pieces stop

-- the pieces where they stand
abbrev pub placed_pieces : {start : Walked} → CutFrom start → List (Placed PieceKind)
placed_pieces {start} cut = placed start.passed cut.pieces cut.stop

-- where no further piece begins
abbrev pub end : {start : Walked} → CutFrom start → Walked
end {start} cut = record { passed = start.passed ++ characters cut.pieces; rest = cut.stop }

-- ---- lexemes

-- a piece that is a lexeme, not white space and no comment
abbrev pub is_lexeme : Placed PieceKind → Bool
is_lexeme piece = of_kind piece.kind
  where
    of_kind : PieceKind → Bool
    of_kind (Lexeme kind) = true
    of_kind _ = false

-- the pieces that are lexemes
abbrev pub lexemes : List (Placed PieceKind) → List (Placed PieceKind)
lexemes = filter is_lexeme

-- the kind and the characters of a lexeme
abbrev pub spelled : Placed PieceKind → Option (Piece LexKind)
spelled piece = of_kind piece.kind
  where
    of_kind : PieceKind → Option (Piece LexKind)
    of_kind (Lexeme kind) = Some (record { kind = kind; slice = piece.slice })
    of_kind _ = None

-- what is told of where a lexeme stands
abbrev pub spanned : Placed PieceKind → Option Spanned
spanned piece = of_kind piece.kind
  where
    of_kind : PieceKind → Option Spanned
    of_kind (Lexeme kind) = Some (record { place = place_after piece.front; from = byte_len piece.front; to = byte_len (piece.front ++ piece.slice); kind = kind })
    of_kind _ = None
