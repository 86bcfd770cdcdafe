-- Which lexeme of a document a slice of its text is.
use Rattle.std.specs.Prelude.{◌≡◌, ℕ, List, [], ◌∷◌, Option, Some, None, codes, nat_eq, if◌then◌else◌}
use Rattle.std.specs.Cmp.Lexicographic.{pointwise}
use Rattle.abnf_lexer.specs.declared.lexemes.LexKind.{LexKind}
use Rattle.abnf_lexer.specs.declared.lexemes.LexKind.TheVariants as kind
use Rattle.abnf_lexer.specs.declared.lexemes.Spanned.{Spanned}
use Rattle.abnf_lexer.specs.Codes.{IsCode}
use Rattle.abnf_lexer.specs.Insides.{IsInside}
use Rattle.abnf_lexer.specs.Repeats.{Most, IsRepeat, IsNoRepeat}
use Rattle.abnf_parser.specs.declared.lexeme.BareWord.{BareWord}
use Rattle.abnf_parser.specs.declared.lexeme.BareWord.TheVariants as word
use Rattle.abnf_parser.specs.declared.lexeme.AngleForm.{AngleForm}
use Rattle.abnf_parser.specs.declared.lexeme.AngleForm.TheVariants as angle
use Rattle.abnf_parser.specs.declared.lexeme.Sign.{Sign}
use Rattle.abnf_parser.specs.declared.lexeme.Sign.TheVariants as sign
use Rattle.abnf_parser.specs.declared.lexeme.Lexeme.{Lexeme}
use Rattle.abnf_parser.specs.declared.lexeme.Lexeme.TheVariants as l

-- what stands beside these characters in a table
abbrev pub found_in : {A : Type 0} → List (List ℕ × A) → List ℕ → Option A
found_in [] characters = None
found_in (row ∷ table) characters = if pointwise nat_eq characters row.0 then Some row.1 else found_in table characters

-- ---- bare words

-- the keywords, as they are written; each has the form of a language's code
abbrev pub keywords : List (List ℕ × BareWord)
keywords =
    (codes "language", word.Language) ∷ (codes "mode", word.Mode) ∷ (codes "voice", word.Voice) ∷ (codes "dtmf", word.Dtmf)
    ∷ (codes "root", word.Root) ∷ (codes "tag-format", word.TagFormat) ∷ (codes "base", word.Base) ∷ (codes "lexicon", word.Lexicon)
    ∷ (codes "meta", word.Meta) ∷ (codes "http-equiv", word.HttpEquiv) ∷ (codes "is", word.Is)
    ∷ (codes "public", word.Public) ∷ (codes "private", word.Private) ∷ []

abbrev pub IsWordAs : Option BareWord → BareWord → List ℕ → Type 0
IsWordAs (Some keyword) word slice = word ≡ keyword
IsWordAs None word.Code slice = IsCode slice
IsWordAs None word.Other slice = IsCode slice → ⊥
IsWordAs None word slice = ⊥

-- the slice is this keyword; or it is none, and has the form of a code or not
abbrev pub IsBareWord : BareWord → List ℕ → Type 0
IsBareWord word slice = IsWordAs (found_in keywords slice) word slice

-- ---- Angles

abbrev pub form_of : Option (List ℕ) → AngleForm
form_of None = angle.Plain
form_of (Some media) = angle.Typed

-- the slice is a repeat; or it is none, and has a media type or not
abbrev pub HasAngleForm : AngleForm → List ℕ → Type 0
HasAngleForm angle.Repeat slice = (least : List ℕ) × (most : Most) × (chance : Option (List ℕ)) × IsRepeat slice least most chance
HasAngleForm form slice =
    IsNoRepeat slice × ((inside : List ℕ) × (media : Option (List ℕ)) × IsInside kind.Angle inside media slice × (form ≡ form_of media))

-- ---- signs

abbrev pub signs : List (List ℕ × Sign)
signs =
    (codes ";", sign.Semicolon) ∷ (codes "=", sign.Equals) ∷ (codes "|", sign.Bar) ∷ (codes "(", sign.RoundOpen)
    ∷ (codes ")", sign.RoundClose) ∷ (codes "[", sign.SquareOpen) ∷ (codes "]", sign.SquareClose) ∷ []

-- ---- lexemes

abbrev pub StandsAs : LexKind → Spanned → List ℕ → Lexeme → Type 0
StandsAs kind.Bare span slice x = (word : BareWord) × IsBareWord word slice × (x ≡ l.Bare word span)
StandsAs kind.Quoted span slice x = x ≡ l.Quoted span
StandsAs kind.Name span slice x = x ≡ l.Name span
StandsAs kind.UriRef span slice x = x ≡ l.UriRef span
StandsAs kind.Angle span slice x = (form : AngleForm) × HasAngleForm form slice × (x ≡ l.Angle form span)
StandsAs kind.Weight span slice x = x ≡ l.Weight span
StandsAs kind.Language span slice x = x ≡ l.Language span
StandsAs kind.Tag span slice x = x ≡ l.Tag span
StandsAs kind.Sign span slice x = (s : Sign) × (found_in signs slice ≡ Some s) × (x ≡ l.Sign s)

-- this lexeme stands there, with these characters
abbrev pub Stands : Spanned → List ℕ → Lexeme → Type 0
Stands span slice x = StandsAs span.kind span slice x
