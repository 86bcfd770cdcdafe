-- What is known of a text as far as it is cut.
use Rattle.std.specs.Prelude.{◌≡◌, ℕ, ◌<◌, ◌≤◌, ◌&&◌, ◌==◌, nat_le, List, [], ◌∷◌, ◌++◌, length, take, drop, Option, Some, None}
use Rattle.std.specs.List.{filter_map}
use Rattle.vg_base.specs.declared.doc_fault.DocFault.{DocFault}
use Rattle.vg_base.specs.declared.doc_fault.DocKind.TheVariants.{BadCharacter, Deep, Large}
use Rattle.vg_base.specs.Cut.{Piece, characters, Cuts, BeginsNone, Placed, placed}
use Rattle.vg_base.specs.Faults.{doc_fault_order}
use Rattle.vg_base.specs.First.{IsFirst}
use Rattle.vg_base.specs.Limits as limits
use Rattle.vg_base.specs.Places.{Walked}
use Rattle.vg_base.specs.Runs.{begins}
use Rattle.abnf_lexer.specs.declared.front.Cut.{Cut}
use Rattle.abnf_lexer.specs.declared.lexemes.LexKind.{LexKind}
use Rattle.abnf_lexer.specs.declared.lexemes.PieceKind.{PieceKind}
use Rattle.abnf_lexer.specs.declared.lexemes.PieceKind.TheVariants.{Lexeme}
use Rattle.abnf_lexer.specs.declared.tally.Tally.{Tally}
use Rattle.abnf_lexer.specs.Classes.{is_joint}
use Rattle.abnf_lexer.specs.Faults.{told, bad_characters, is_name_kind, is_opening, lexeme_faults, open_brackets}
use Rattle.abnf_lexer.specs.Forms.{HasForm}
use Rattle.abnf_lexer.specs.Lexemes.{lexemes, spanned}

-- the piece of so many characters that comes next
abbrev pub next_piece : PieceKind → ℕ → (rest : List ℕ) → Piece PieceKind
next_piece kind len rest = record { kind = kind; slice = take len rest }

-- what is cut off is some of the text
abbrev pub FitsIn : Option Cut → ℕ → Type 0
FitsIn None left = Unit {0}
FitsIn (Some cut) left = (0 < cut.len) × (cut.len ≤ left)

-- pieces behind a front, and what is left behind them
pub record Passed : Type 0 where
  pub front : List ℕ
  pub pieces : List (Piece PieceKind)
  pub rest : List ℕ

-- the walk that has passed them
abbrev pub behind : Passed → Walked
behind p = record { passed = p.front ++ characters p.pieces; rest = p.rest }

-- one more piece, of so many characters
abbrev pub one_more : Passed → PieceKind → ℕ → Passed
one_more p kind len = record { front = p.front; pieces = p.pieces ++ next_piece kind len p.rest ∷ []; rest = drop len p.rest }

abbrev pub pieces_in : Passed → List (Placed PieceKind)
pieces_in p = placed p.front p.pieces p.rest

-- the faults of these pieces alone: bad characters in them, and faults of those that are lexemes
abbrev pub faults_in : Passed → List DocFault
faults_in p = bad_characters p.front (characters p.pieces) ++ lexeme_faults [] (lexemes (pieces_in p))

-- the first fault of the pieces; and as long as they have none, their lexemes and the open brackets
pub record IsTally (tally : Tally) (p : Passed) : Type 0 where
  pub first : IsFirst doc_fault_order (faults_in p) tally.fault
  pub found : tally.fault ≡ None → tally.found.items ≡ filter_map spanned (pieces_in p)
  pub brackets : tally.fault ≡ None → tally.brackets ≡ open_brackets (lexemes (pieces_in p))

-- the faults of the lexeme of so many characters that comes next, by the tests of the code
abbrev pub faults_found : Tally → LexKind → ℕ → Walked → List DocFault
faults_found tally kind len walk =
    bad_characters walk.passed (take len walk.rest)
    ++ (told (is_name_kind (Lexeme kind) && begins is_joint (drop len walk.rest)) (walk.passed ++ take len walk.rest) BadCharacter
    ++ (told (begins is_opening (take len walk.rest) && nat_le limits.nesting tally.brackets) walk.passed Deep ++ told (length tally.found.items == limits.lexemes) walk.passed Large))

-- behind pieces without a fault, the new tally has one more, of so many characters
abbrev pub Counts : (old new : Tally) → PieceKind → ℕ → Walked → Type 0
Counts old new kind len walk = (p : Passed) → walk ≡ behind p → old.fault ≡ None → IsTally old p → IsTally new (one_more p kind len)

-- from the one walk to the other there are pieces, of which this is the tally; where they have no fault, none begins behind them
pub record IsTallied (from to : Walked) (tally : Tally) : Type 0 where
  pub pieces : List (Piece PieceKind)
  pub cuts : Cuts HasForm from.rest pieces to.rest
  pub passed : to.passed ≡ from.passed ++ characters pieces
  pub is_tally : IsTally tally (record { front = from.passed; pieces = pieces; rest = to.rest })
  pub stuck : tally.fault ≡ None → BeginsNone HasForm to.rest
