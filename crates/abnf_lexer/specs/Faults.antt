-- The faults of a cutting: the list of all that there are up to where it stops.
use Rattle.std.specs.Prelude.{ℕ, ◌+◌, ◌-◌, Bool, true, false, not, ◌&&◌, ◌==◌, nat_eq, nat_le, if◌then◌else◌, List, [], ◌∷◌, ◌++◌, length, fold, codes}
use Rattle.std.specs.List.{list_any, starts_with}
use Rattle.vg_base.specs.declared.doc_fault.DocKind.{DocKind}
use Rattle.vg_base.specs.declared.doc_fault.DocKind.TheVariants.{BadCharacter, Unclosed, Deep, Large}
use Rattle.vg_base.specs.declared.doc_fault.DocFault.{DocFault}
use Rattle.vg_base.specs.Characters.{is_char}
use Rattle.vg_base.specs.Places.{Walked, place_after}
use Rattle.abnf_lexer.specs.declared.lexemes.PieceKind.{PieceKind}
use Rattle.abnf_lexer.specs.declared.lexemes.PieceKind.TheVariants.{Lexeme}
use Rattle.abnf_lexer.specs.declared.lexemes.LexKind.TheVariants.{Name}
use Rattle.vg_base.specs.Cut.{Placed}
use Rattle.vg_base.specs.Limits as limits
use Rattle.vg_base.specs.Runs.{begins}
use Rattle.abnf_lexer.specs.Classes.{is_empty, is_one_of, is_joint}
use Rattle.abnf_lexer.specs.Lexemes.{lexemes}

-- where the test holds, a fault of this kind just behind the front
abbrev pub told : Bool → (front : List ℕ) → DocKind → List DocFault
told true front kind = record { place = place_after front; kind = kind } ∷ []
told false front kind = []

-- each character that a document may not have
abbrev pub bad_characters : (front rest : List ℕ) → List DocFault
bad_characters front [] = []
bad_characters front (c ∷ rest) = told (not (is_char c)) front BadCharacter ++ bad_characters (front ++ c ∷ []) rest

-- ---- where the cutting stops

-- the text begins with what needs an end
abbrev pub opens : List ℕ → Bool
opens text = list_any (starts_with nat_eq text) (codes "\"" ∷ codes "$<" ∷ codes "<" ∷ codes "/" ∷ codes "{" ∷ [])

-- of a text at which no piece begins: it is at its end, or what opens here has no end, or its character begins nothing
abbrev pub stop_faults : Walked → List DocFault
stop_faults walk = told (not (is_empty walk.rest)) walk.passed (if opens walk.rest then Unclosed else BadCharacter)

-- ---- of each lexeme, given those before it

abbrev pub is_name_kind : PieceKind → Bool
is_name_kind (Lexeme Name) = true
is_name_kind _ = false

-- a name that is followed by a joint
abbrev pub joint : Placed PieceKind → List DocFault
joint piece = told (is_name_kind piece.kind && begins is_joint piece.rest) (piece.front ++ piece.slice) BadCharacter

abbrev pub is_opening : ℕ → Bool
is_opening = is_one_of (codes "([")

abbrev pub is_closing : ℕ → Bool
is_closing = is_one_of (codes ")]")

-- the open brackets behind one more lexeme
abbrev pub bracketed : ℕ → List ℕ → ℕ
bracketed count slice = if begins is_opening slice then count + 1 else (if begins is_closing slice then count - 1 else count)

-- how many brackets are open behind these lexemes
abbrev pub open_brackets : List (Placed PieceKind) → ℕ
open_brackets = fold (λ count piece. bracketed count piece.slice) 0

-- an opening bracket where as many are open as may be
abbrev pub deep : List (Placed PieceKind) → Placed PieceKind → List DocFault
deep before piece = told (begins is_opening piece.slice && nat_le limits.nesting (open_brackets before)) piece.front Deep

-- a lexeme that has as many before it as there may be
abbrev pub large : List (Placed PieceKind) → Placed PieceKind → List DocFault
large before piece = told (length before == limits.lexemes) piece.front Large

-- all faults of a lexeme, given those before it
abbrev pub faults_at : List (Placed PieceKind) → Placed PieceKind → List DocFault
faults_at before piece = joint piece ++ (deep before piece ++ large before piece)

-- all faults of lexemes, given those before them
abbrev pub lexeme_faults : (before those : List (Placed PieceKind)) → List DocFault
lexeme_faults before [] = []
lexeme_faults before (piece ∷ pieces) = faults_at before piece ++ lexeme_faults (before ++ piece ∷ []) pieces

-- all faults of a text that is cut into these pieces, up to a place where none begins
abbrev pub cutting_faults : List ℕ → List (Placed PieceKind) → Walked → List DocFault
cutting_faults text pieces stop = bad_characters [] text ++ (lexeme_faults [] (lexemes pieces) ++ stop_faults stop)
