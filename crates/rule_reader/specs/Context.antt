-- What the declarations of a document say of its bodies (SRGS 1.0 section 4). The first declaration of a kind counts.
use Rattle.std.specs.Prelude.{◌≡◌, ℕ, Bool, ◌==◌, bytes_eq, List, [], ◌∷◌, Option, Some, None, codes, if◌then◌else◌}
use Rattle.vg_base.specs.declared.mode.Mode.{Mode}
use Rattle.vg_base.specs.declared.mode.Mode.TheVariants as mode
use Rattle.vg_base.specs.declared.format.Format.{Format}
use Rattle.vg_base.specs.declared.format.Format.TheVariants as format
use Rattle.abnf_lexer.specs.declared.lexemes.Spanned.{Spanned}
use Rattle.abnf_parser.specs.declared.lexeme.BareWord.{BareWord}
use Rattle.abnf_parser.specs.declared.lexeme.BareWord.TheVariants as word
use Rattle.abnf_parser.specs.declared.lexeme.Lexeme.{Lexeme}
use Rattle.abnf_parser.specs.declared.lexeme.Lexeme.TheVariants as l
use Rattle.abnf_parser.specs.declared.written.Declaration.{Declaration}
use Rattle.rule_reader.specs.declared.context.Context.{Context}
use Rattle.rule_reader.specs.Leaves.{HasInside}

-- ---- keywords

-- the five of which a document has one at most, numbered
abbrev pub once : BareWord → Option ℕ
once word.Language = Some 1
once word.Mode = Some 2
once word.Root = Some 3
once word.TagFormat = Some 4
once word.Base = Some 5
once _ = None

abbrev pub same : Option ℕ → Option ℕ → Bool
same (Some m) (Some n) = m == n
same _ _ = 0 == 1

-- the first declaration by this keyword
abbrev pub first_by : BareWord → List Declaration → Option Declaration
first_by keyword [] = None
first_by keyword (d ∷ declarations) = if same (once keyword) (once d.keyword) then Some d else first_by keyword declarations

-- ---- what it declares

-- the lexeme behind its keyword
abbrev pub argument : Option Declaration → Option Lexeme
argument None = None
argument (Some d) = first d.others
  where
    first : List Lexeme → Option Lexeme
    first [] = None
    first (x ∷ others) = Some x

abbrev pub mode_by : Option Lexeme → Mode
mode_by (Some (l.Bare word.Dtmf span)) = mode.Dtmf
mode_by _ = mode.Voice

abbrev pub span_of : Option Lexeme → Option Spanned
span_of (Some (l.Name span)) = Some span
span_of (Some (l.Angle form span)) = Some span
span_of _ = None

-- without a declaration a document is for voices
abbrev pub mode_of : List Declaration → Mode
mode_of declarations = mode_by (argument (first_by word.Mode declarations))

-- where the name of the root rule stands, the tag format, and the base
abbrev pub root_of : List Declaration → Option Spanned
root_of declarations = span_of (argument (first_by word.Root declarations))

abbrev pub format_of : List Declaration → Option Spanned
format_of declarations = span_of (argument (first_by word.TagFormat declarations))

abbrev pub base_of : List Declaration → Option Spanned
base_of declarations = span_of (argument (first_by word.Base declarations))

-- ---- tag formats (SISR 1.0 section 5)

-- the tag format of this name, or none
abbrev pub format_named : List ℕ → Option Format
format_named name =
    if bytes_eq name (codes "semantics/1.0") then Some format.Script
    else if bytes_eq name (codes "semantics/1.0-literals") then Some format.Literal
    else None

-- none where none is declared, or one of another name
abbrev pub FormatIs : List ℕ → Option Spanned → Option Format → Type 0
FormatIs text None f = f ≡ None
FormatIs text (Some span) f = (inside : List ℕ) × HasInside text span inside × (f ≡ format_named inside)

-- what bodies are read by
pub record HasContext (text : List ℕ) (declarations : List Declaration) (context : Context) : Type 0 where
  pub mode : context.mode ≡ mode_of declarations
  pub format : FormatIs text (format_of declarations) context.format
