-- What cutting a text answers.
use Rattle.std.specs.Prelude.{◌≡◌, ℕ, ◌⊎◌, List, [], ◌++◌, length, Some, slice_get, ◌<◌, ◌≤◌, Result, Ok, Err}
use Rattle.std.specs.List.{filter_map}
use Rattle.vg_base.specs.declared.doc_fault.DocFault.{DocFault}
use Rattle.vg_base.specs.Characters.{byte_len, IsPlace}
use Rattle.vg_base.specs.Cut.{Piece}
use Rattle.vg_base.specs.Faults.{doc_fault_order}
use Rattle.vg_base.specs.First.{IsFirst}
use Rattle.vg_base.specs.Places.{place_after}
use Rattle.abnf_lexer.specs.declared.lexemes.LexKind.{LexKind}
use Rattle.abnf_lexer.specs.declared.lexemes.Spanned.{Spanned}
use Rattle.abnf_lexer.specs.declared.lexemes.PieceKind.TheVariants.{Lexeme}
use Rattle.abnf_lexer.specs.Forms.{HasForm}
use Rattle.abnf_lexer.specs.Lexemes.{CutFrom, placed_pieces, end, spanned, spelled}
use Rattle.abnf_lexer.specs.Faults.{cutting_faults}
use Rattle.abnf_lexer.specs.Header.{header_faults, behind_header}

-- ---- the answer

-- a cutting of the text behind its header, which has no fault
pub record IsFaultless (text : List ℕ) (cut : CutFrom (behind_header text)) : Type 0 where
  pub header : header_faults text ≡ []
  pub pieces : cutting_faults text (placed_pieces cut) (end cut) ≡ []

-- the text has no fault, and its lexemes stand there
pub record AreLexemes (text : List ℕ) (found : List Spanned) : Type 0 where
  pub cut : CutFrom (behind_header text)
  pub faultless : IsFaultless text cut
  pub lexemes : found ≡ filter_map spanned (placed_pieces cut)

-- the text has no fault, and these are its lexemes, each by its kind and its characters
pub record HasLexemes (text : List ℕ) (lexemes : List (Piece LexKind)) : Type 0 where
  pub cut : CutFrom (behind_header text)
  pub faultless : IsFaultless text cut
  pub spelled : lexemes ≡ filter_map spelled (placed_pieces cut)

-- the first fault of the cutting behind the header
pub record IsCuttingFault (text : List ℕ) (fault : DocFault) : Type 0 where
  pub header : header_faults text ≡ []
  pub cut : CutFrom (behind_header text)
  pub first : IsFirst doc_fault_order (cutting_faults text (placed_pieces cut) (end cut)) (Some fault)

-- the first fault of the header; where it has none, the first fault of the cutting
abbrev pub IsFirstFault : List ℕ → DocFault → Type 0
IsFirstFault text fault = IsFirst doc_fault_order (header_faults text) (Some fault) ⊎ IsCuttingFault text fault

-- the lexemes of a text, or its first fault
abbrev pub Lexes : List ℕ → Result (List Spanned) DocFault → Type 0
Lexes text (Ok found) = AreLexemes text found
Lexes text (Err fault) = IsFirstFault text fault

-- ---- where the lexemes stand

-- the lexeme is a slice of the text that has the form of its kind; it tells where the slice stands
pub record IsLexeme (text : List ℕ) (lexeme : Spanned) : Type 0 where
  pub front : List ℕ
  pub slice : List ℕ
  pub rest : List ℕ
  pub whole : text ≡ front ++ (slice ++ rest)
  pub form : HasForm (Lexeme lexeme.kind) slice rest
  pub place : lexeme.place ≡ place_after front
  pub from : lexeme.from ≡ byte_len front
  pub to : lexeme.to ≡ byte_len (front ++ slice)

-- the slice has a character, and stands between two places
pub record IsWithin (text : List ℕ) (lexeme : Spanned) : Type 0 where
  pub starts : IsPlace text lexeme.from
  pub ends : IsPlace text lexeme.to
  pub some : lexeme.from < lexeme.to

-- the one ends before the other begins
abbrev pub Precedes : Spanned → Spanned → Type 0
Precedes one other = one.to ≤ other.from

-- the lexeme of this kind and these characters stands there
pub record Shows (text : List ℕ) (span : Spanned) (lexeme : Piece LexKind) : Type 0 where
  pub front : List ℕ
  pub rest : List ℕ
  pub kind : span.kind ≡ lexeme.kind
  pub whole : text ≡ front ++ (lexeme.slice ++ rest)
  pub form : HasForm (Lexeme lexeme.kind) lexeme.slice rest
  pub from : span.from ≡ byte_len front
  pub to : span.to ≡ byte_len (front ++ lexeme.slice)

-- there are as many of both, and each lexeme stands where the one at its index tells
pub record ShowsEach (text : List ℕ) (spans : List Spanned) (lexemes : List (Piece LexKind)) : Type 0 where
  pub count : length spans ≡ length lexemes
  pub each : (k : ℕ) (span : Spanned) (lexeme : Piece LexKind) → slice_get spans k ≡ Some span → slice_get lexemes k ≡ Some lexeme → Shows text span lexeme

-- the spans show the lexemes of the text, in order
pub record ShowsAll (text : List ℕ) (spans : List Spanned) : Type 0 where
  pub lexemes : List (Piece LexKind)
  pub has : HasLexemes text lexemes
  pub shows : ShowsEach text spans lexemes
