-- The forms of lexemes and of what stands between them (this project's profile of SRGS 1.0, grammars in ABNF form).
-- A form is that of a slice of the text, before this rest of it: a run is as long as it can be.
use Rattle.std.specs.Prelude.{◌≡◌, ◌≢◌, ℕ, true, false, nat_eq, List, [], ◌∷◌, ◌++◌, ◌⊎◌, codes}
use Rattle.std.specs.List.{starts_with}
use Rattle.vg_base.specs.Characters.{is_name_start, is_name}
use Rattle.vg_base.specs.Runs.{IsRun, IsEnclosed, IsWhiteSpace, IsLineComment, IsBlockComment}
use Rattle.abnf_lexer.specs.declared.lexemes.PieceKind.{PieceKind}
use Rattle.abnf_lexer.specs.declared.lexemes.PieceKind.TheVariants.{WhiteSpace, LineComment, BlockComment, Lexeme}
use Rattle.abnf_lexer.specs.declared.lexemes.LexKind.TheVariants as lex
use Rattle.abnf_lexer.specs.Classes.{is_sign, is_bare, is_code_character}
use Rattle.abnf_lexer.specs.Codes.{IsCode}

-- `~<`, characters up to the next `>`, and that
abbrev pub IsMediaType : List ℕ → Type 0
IsMediaType = IsEnclosed (codes "~<") (codes ">")

-- a media type; or nothing, where none stands
abbrev pub IsMedia : (media rest : List ℕ) → Type 0
IsMedia media rest = IsMediaType media ⊎ ((media ≡ []) × ((other more : List ℕ) → rest ≡ other ++ more → IsMediaType other → ⊥))

-- an opening with all up to the next `>`, and a media type or none directly after it
pub record IsAngled (opening slice rest : List ℕ) : Type 0 where
  pub angle : List ℕ
  pub media : List ℕ
  pub whole : slice ≡ angle ++ media
  pub enclosed : IsEnclosed opening (codes ">") angle
  pub has_media : IsMedia media rest

-- a bare word: a longest run of characters that begin no other lexeme
pub record IsBare (slice rest : List ℕ) : Type 0 where
  pub run : IsRun is_bare slice rest
  pub some : slice ≢ []

-- `$` and the name of a rule
pub record IsName (slice rest : List ℕ) : Type 0 where
  pub first : ℕ
  pub others : List ℕ
  pub whole : slice ≡ 36 ∷ first ∷ others
  pub starts : is_name_start first ≡ true
  pub run : IsRun is_name others rest

-- a slash that begins no comment, and all up to the next slash
pub record IsWeight (slice : List ℕ) : Type 0 where
  pub enclosed : IsEnclosed (codes "/") (codes "/") slice
  pub no_line : starts_with nat_eq slice (codes "//") ≡ false
  pub no_block : starts_with nat_eq slice (codes "/*") ≡ false

-- `!` and the code of a language
pub record IsLanguage (slice rest : List ℕ) : Type 0 where
  pub code : List ℕ
  pub whole : slice ≡ 33 ∷ code
  pub run : IsRun is_code_character code rest
  pub is_code : IsCode code

-- `{!{` up to the next `}!}`; or `{` up to the next `}`
abbrev pub IsTag : List ℕ → Type 0
IsTag slice = IsEnclosed (codes "{!{") (codes "}!}") slice ⊎ (IsEnclosed (codes "{") (codes "}") slice × (starts_with nat_eq slice (codes "{!{") ≡ false))

-- one of the signs
pub record IsSign (slice : List ℕ) : Type 0 where
  pub sign : ℕ
  pub whole : slice ≡ sign ∷ []
  pub is_sign : is_sign sign ≡ true

-- the slice, before this rest of the text, is a piece of this kind
abbrev pub HasForm : PieceKind → (slice rest : List ℕ) → Type 0
HasForm WhiteSpace slice rest = IsWhiteSpace slice rest
HasForm LineComment slice rest = IsLineComment slice rest
HasForm BlockComment slice rest = IsBlockComment slice
HasForm (Lexeme lex.Bare) slice rest = IsBare slice rest
HasForm (Lexeme lex.Quoted) slice rest = IsEnclosed (codes "\"") (codes "\"") slice
HasForm (Lexeme lex.Name) slice rest = IsName slice rest
HasForm (Lexeme lex.UriRef) slice rest = IsAngled (codes "$<") slice rest
HasForm (Lexeme lex.Angle) slice rest = IsAngled (codes "<") slice rest
HasForm (Lexeme lex.Weight) slice rest = IsWeight slice
HasForm (Lexeme lex.Language) slice rest = IsLanguage slice rest
HasForm (Lexeme lex.Tag) slice rest = IsTag slice
HasForm (Lexeme lex.Sign) slice rest = IsSign slice
