-- The lexemes of a text, as a document has them; and the tree that the text is written as, or its first fault up to there.
use Rattle.std.specs.Prelude.{◌≡◌, ◌⊎◌, ℕ, List, length, Option, Some, None, slice_get, Result, Ok, Err}
use Rattle.vg_base.specs.declared.doc_fault.DocFault.{DocFault}
use Rattle.vg_base.specs.declared.doc_fault.DocKind.TheVariants.{Unexpected}
use Rattle.vg_base.specs.declared.place.Place.{Place}
use Rattle.vg_base.specs.Cut.{Piece}
use Rattle.vg_base.specs.Places.{place_after}
use Rattle.vg_base.specs.Reading.{SpellsOnly, FirstUnfit}
use Rattle.abnf_lexer.specs.declared.lexemes.LexKind.{LexKind}
use Rattle.abnf_lexer.specs.declared.lexemes.Spanned.{Spanned}
use Rattle.abnf_lexer.specs.Lexing.{AreLexemes, HasLexemes, IsFirstFault}
use Rattle.abnf_parser.specs.declared.lexeme.Lexeme.{Lexeme}
use Rattle.abnf_parser.specs.declared.written.WrittenDocument.{WrittenDocument}
use Rattle.abnf_parser.specs.Roles.{Stands}
use Rattle.abnf_parser.specs.Documents.{Spells}

-- there are as many of each, and each lexeme stands where the span at its index tells, with the characters of the piece there
pub record EachStands (spans : List Spanned) (pieces : List (Piece LexKind)) (lexemes : List Lexeme) : Type 0 where
  pub as_pieces : length pieces ≡ length spans
  pub as_lexemes : length lexemes ≡ length spans
  pub each : (k : ℕ) (span : Spanned) (piece : Piece LexKind) (x : Lexeme) → slice_get spans k ≡ Some span → slice_get pieces k ≡ Some piece
      → slice_get lexemes k ≡ Some x → Stands span piece.slice x

-- the text has no fault of its header and its cutting, and these are its lexemes, with their spans
pub record HasDocumentLexemes (text : List ℕ) (spans : List Spanned) (lexemes : List Lexeme) : Type 0 where
  pub pieces : List (Piece LexKind)
  pub are : AreLexemes text spans
  pub has : HasLexemes text pieces
  pub stand : EachStands spans pieces lexemes

-- where the lexeme of this index stands; behind the last one, the end of the text
abbrev pub place_of : List ℕ → List Spanned → ℕ → Place
place_of text spans at = of_span (slice_get spans at)
  where
    of_span : Option Spanned → Place
    of_span (Some span) = span.place
    of_span None = place_after text

-- the text is written as this document
pub record IsWritten (text : List ℕ) (document : WrittenDocument) : Type 0 where
  pub spans : List Spanned
  pub lexemes : List Lexeme
  pub has : HasDocumentLexemes text spans lexemes
  pub spells : SpellsOnly Spells lexemes document

-- the first lexeme that, with those before it, begins no document; or the end of the text
pub record IsUnexpected (text : List ℕ) (fault : DocFault) : Type 0 where
  pub spans : List Spanned
  pub lexemes : List Lexeme
  pub has : HasDocumentLexemes text spans lexemes
  pub at : ℕ
  pub first : FirstUnfit Spells lexemes at
  pub told : fault ≡ record { place = place_of text spans at; kind = Unexpected }

-- the document that a text is written as; or its first fault of the header, else of the cutting, else of what its lexemes spell
abbrev pub IsSyntax : List ℕ → Result WrittenDocument DocFault → Type 0
IsSyntax text (Ok document) = IsWritten text document
IsSyntax text (Err fault) = IsFirstFault text fault ⊎ IsUnexpected text fault
