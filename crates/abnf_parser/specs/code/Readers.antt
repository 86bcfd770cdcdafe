-- The machine that reads a document: what one more lexeme does.
use Rattle.std.specs.Prelude.{Bool, true, false, List, [], ◌∷◌, ◌++◌, Option, Some, None}
use Rattle.std.specs.Option.{option_map}
use Rattle.abnf_lexer.specs.declared.lexemes.Spanned.{Spanned}
use Rattle.vg_base.specs.Reading.{Machine}
use Rattle.abnf_parser.specs.declared.lexeme.BareWord.{BareWord}
use Rattle.abnf_parser.specs.declared.lexeme.BareWord.TheVariants as word
use Rattle.abnf_parser.specs.declared.lexeme.Sign.TheVariants as sign
use Rattle.abnf_parser.specs.declared.lexeme.Lexeme.{Lexeme}
use Rattle.abnf_parser.specs.declared.lexeme.Lexeme.TheVariants as l
use Rattle.abnf_parser.specs.declared.written.Declaration.{Declaration}
use Rattle.abnf_parser.specs.declared.written.WrittenRule.{WrittenRule}
use Rattle.abnf_parser.specs.declared.written.WrittenDocument.{WrittenDocument}
use Rattle.abnf_parser.specs.declared.machine.stack.Turn.{Turn}
use Rattle.abnf_parser.specs.declared.machine.stack.Turn.TheVariants as t
use Rattle.abnf_parser.specs.declared.machine.stack.Expected.{Expected}
use Rattle.abnf_parser.specs.declared.machine.stack.Expected.TheVariants as e
use Rattle.abnf_parser.specs.declared.machine.stack.Phase.{Phase}
use Rattle.abnf_parser.specs.declared.machine.stack.Phase.TheVariants as p
use Rattle.abnf_parser.specs.declared.machine.stack.Reader.{Reader}
use Rattle.abnf_parser.specs.Declarations.{is_lang, is_mode, is_name, is_quoted, is_is, is_untyped, is_angle, is_semicolon}
use Rattle.abnf_parser.specs.code.Bodies.{turn, begun}

-- ---- declarations

-- what the keyword of a declaration is followed by
abbrev pub first_expected : BareWord → Option Expected
first_expected word.Language = Some e.Code
first_expected word.Mode = Some e.ModeName
first_expected word.Root = Some e.RuleName
first_expected word.TagFormat = Some e.Untyped
first_expected word.Base = Some e.Untyped
first_expected word.Lexicon = Some e.Angle
first_expected word.Meta = Some e.MetaName
first_expected word.HttpEquiv = Some e.MetaName
first_expected _ = None

abbrev pub accepts : Expected → Lexeme → Bool
accepts e.Code = is_lang
accepts e.ModeName = is_mode
accepts e.RuleName = is_name
accepts e.Untyped = is_untyped
accepts e.Angle = is_angle
accepts e.MetaName = is_quoted
accepts e.Is = is_is
accepts e.Content = is_quoted
accepts e.Semicolon = is_semicolon

-- what comes behind it, up to the `;`
abbrev pub next_expected : Expected → Option Expected
next_expected e.MetaName = Some e.Is
next_expected e.Is = Some e.Content
next_expected e.Semicolon = None
next_expected _ = Some e.Semicolon

-- ---- turns

abbrev pub at : List Declaration → List WrittenRule → Phase → Reader
at declarations rules phase = record { declarations = declarations; rules = rules; phase = phase }

abbrev pub declared : Declaration → Lexeme → Declaration
declared d x = record { keyword = d.keyword; span = d.span; others = d.others ++ x ∷ [] }

-- one more lexeme of a declaration
abbrev pub further : List Declaration → List WrittenRule → Declaration → Option Expected → Reader
further declarations rules d None = at (declarations ++ d ∷ []) rules p.Declarations
further declarations rules d (Some expected) = at declarations rules (p.Declaring d expected)

abbrev pub on_declaring : List Declaration → List WrittenRule → Declaration → Expected → Lexeme → Option Reader
on_declaring declarations rules d expected x =
    elim (accepts expected x) [ true ↦ Some (further declarations rules (declared d x) (next_expected expected)) | false ↦ None ]

abbrev pub on_keyword : List Declaration → List WrittenRule → BareWord → Spanned → Option Reader
on_keyword declarations rules word span =
    option_map (λ expected. at declarations rules (p.Declaring (record { keyword = word; span = span; others = [] }) expected)) (first_expected word)

-- a lexeme before a rule
unfoldable pub on_rules : List Declaration → List WrittenRule → Lexeme → Option Reader
on_rules declarations rules (l.Bare word.Public span) = Some (at declarations rules (p.Scoped true))
on_rules declarations rules (l.Bare word.Private span) = Some (at declarations rules (p.Scoped false))
on_rules declarations rules (l.Name name) = Some (at declarations rules (p.Named false name))
on_rules declarations rules _ = None

abbrev pub is_scope : BareWord → Bool
is_scope word.Public = true
is_scope word.Private = true
is_scope _ = false

abbrev pub on_word : List Declaration → List WrittenRule → BareWord → Spanned → Bool → Option Reader
on_word declarations rules word span true = on_rules declarations rules (l.Bare word span)
on_word declarations rules word span false = on_keyword declarations rules word span

-- a lexeme before a declaration or a rule
unfoldable pub on_declarations : List Declaration → List WrittenRule → Lexeme → Option Reader
on_declarations declarations rules (l.Bare word span) = on_word declarations rules word span (is_scope word)
on_declarations declarations rules x = on_rules declarations rules x

abbrev pub on_scoped : List Declaration → List WrittenRule → Bool → Lexeme → Option Reader
on_scoped declarations rules public (l.Name name) = Some (at declarations rules (p.Named public name))
on_scoped declarations rules public _ = None

abbrev pub on_named : List Declaration → List WrittenRule → Bool → Spanned → Lexeme → Option Reader
on_named declarations rules public name (l.Sign sign.Equals) = Some (at declarations rules (p.Inside public name begun))
on_named declarations rules public name _ = None

abbrev pub on_turn : List Declaration → List WrittenRule → Bool → Spanned → Turn → Option Reader
on_turn declarations rules public name (t.On body) = Some (at declarations rules (p.Inside public name body))
on_turn declarations rules public name (t.Ended body) = Some (at declarations (rules ++ record { public = public; name = name; body = body } ∷ []) p.Rules)
on_turn declarations rules public name t.Unfit = None

abbrev pub in_phase : List Declaration → List WrittenRule → Phase → Lexeme → Option Reader
in_phase declarations rules p.Declarations x = on_declarations declarations rules x
in_phase declarations rules p.Rules x = on_rules declarations rules x
in_phase declarations rules (p.Declaring d expected) x = on_declaring declarations rules d expected x
in_phase declarations rules (p.Scoped public) x = on_scoped declarations rules public x
in_phase declarations rules (p.Named public name) x = on_named declarations rules public name x
in_phase declarations rules (p.Inside public name body) x = on_turn declarations rules public name (turn body x)

unfoldable pub step : Reader → Lexeme → Option Reader
step r x = in_phase r.declarations r.rules r.phase x

abbrev pub start : Reader
start = at [] [] p.Declarations

abbrev pub is_between : Phase → Bool
is_between p.Declarations = true
is_between p.Rules = true
is_between _ = false

-- the document that ends here
unfoldable pub result_of : Reader → Option WrittenDocument
result_of r = elim (is_between r.phase) [ true ↦ Some (record { declarations = r.declarations; rules = r.rules }) | false ↦ None ]

abbrev pub machine : Machine Lexeme WrittenDocument Reader
machine = record { start = start; step = step; result_of = result_of }
