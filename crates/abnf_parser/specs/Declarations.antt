-- The declarations of a document (SRGS 1.0 section 4, in this project's profile of the ABNF form).
use Rattle.std.specs.Prelude.{◌≡◌, Bool, true, false, List, [], ◌∷◌, Option, Some, None}
use Rattle.abnf_parser.specs.declared.lexeme.BareWord.{BareWord}
use Rattle.abnf_parser.specs.declared.lexeme.BareWord.TheVariants as word
use Rattle.abnf_parser.specs.declared.lexeme.AngleForm.TheVariants as angle
use Rattle.abnf_parser.specs.declared.lexeme.Sign.TheVariants as sign
use Rattle.abnf_parser.specs.declared.lexeme.Lexeme.{Lexeme}
use Rattle.abnf_parser.specs.declared.lexeme.Lexeme.TheVariants as l
use Rattle.abnf_parser.specs.declared.written.Declaration.{Declaration}

-- ---- what may stand in a declaration

-- a bare word that has the form of a language's code, as each keyword has it
abbrev pub is_lang : Lexeme → Bool
is_lang (l.Bare word.Other span) = false
is_lang (l.Bare word span) = true
is_lang _ = false

abbrev pub is_mode : Lexeme → Bool
is_mode (l.Bare word.Voice span) = true
is_mode (l.Bare word.Dtmf span) = true
is_mode _ = false

abbrev pub is_name : Lexeme → Bool
is_name (l.Name span) = true
is_name _ = false

abbrev pub is_quoted : Lexeme → Bool
is_quoted (l.Quoted span) = true
is_quoted _ = false

abbrev pub is_is : Lexeme → Bool
is_is (l.Bare word.Is span) = true
is_is _ = false

-- an Angle without a media type; one that is a repeat elsewhere is none here
abbrev pub is_untyped : Lexeme → Bool
is_untyped (l.Angle angle.Typed span) = false
is_untyped (l.Angle form span) = true
is_untyped _ = false

abbrev pub is_angle : Lexeme → Bool
is_angle (l.Angle form span) = true
is_angle _ = false

abbrev pub is_semicolon : Lexeme → Bool
is_semicolon (l.Sign sign.Semicolon) = true
is_semicolon _ = false

-- ---- the productions

-- what follows the keyword; nothing is declared by other words
abbrev pub form : BareWord → Option (List (Lexeme → Bool))
form word.Language = Some (is_lang ∷ is_semicolon ∷ [])
form word.Mode = Some (is_mode ∷ is_semicolon ∷ [])
form word.Root = Some (is_name ∷ is_semicolon ∷ [])
form word.TagFormat = Some (is_untyped ∷ is_semicolon ∷ [])
form word.Base = Some (is_untyped ∷ is_semicolon ∷ [])
form word.Lexicon = Some (is_angle ∷ is_semicolon ∷ [])
form word.Meta = Some (is_quoted ∷ is_is ∷ is_quoted ∷ is_semicolon ∷ [])
form word.HttpEquiv = Some (is_quoted ∷ is_is ∷ is_quoted ∷ is_semicolon ∷ [])
form _ = None

-- each lexeme is such as the form has at its place
abbrev pub Follows : List (Lexeme → Bool) → List Lexeme → Type 0
Follows [] lexemes = lexemes ≡ []
Follows (is_next ∷ form) [] = ⊥
Follows (is_next ∷ form) (lexeme ∷ lexemes) = (is_next lexeme ≡ true) × Follows form lexemes

-- the declaration is written in the form of its keyword
pub record IsDeclaration (d : Declaration) : Type 0 where
  pub others : List (Lexeme → Bool)
  pub of_keyword : form d.keyword ≡ Some others
  pub follows : Follows others d.others
