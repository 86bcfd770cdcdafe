-- What may still come in a document, said by the grammar alone, with the document that comes of it.
use Rattle.std.proofs.Common.{◌≡◌, Bool, List, [], ◌∷◌, ◌++◌}
use Rattle.abnf_lexer.specs.declared.lexemes.Spanned.{Spanned}
use Rattle.abnf_parser.specs.declared.lexeme.Sign.TheVariants as sign
use Rattle.abnf_parser.specs.declared.lexeme.Lexeme.{Lexeme}
use Rattle.abnf_parser.specs.declared.lexeme.Lexeme.TheVariants as l
use Rattle.abnf_parser.specs.declared.written.Declaration.{Declaration}
use Rattle.abnf_parser.specs.declared.written.WrittenRule.{WrittenRule}
use Rattle.abnf_parser.specs.declared.written.WrittenDocument.{WrittenDocument}
use Rattle.abnf_parser.specs.declared.machine.stack.Expected.{Expected}
use Rattle.abnf_parser.specs.declared.machine.stack.Expected.TheVariants as e
use Rattle.abnf_parser.specs.declared.machine.stack.Phase.{Phase}
use Rattle.abnf_parser.specs.declared.machine.stack.Phase.TheVariants as p
use Rattle.abnf_parser.specs.declared.machine.stack.Reader.{Reader}
use Rattle.abnf_parser.specs.Declarations.{is_lang, is_mode, is_name, is_quoted, is_is, is_untyped, is_angle, is_semicolon, Follows}
use Rattle.abnf_parser.specs.Documents.{Rule, rules_spelled, declarations_spelled, AreDeclarations, rules_meant}
use Rattle.abnf_parser.specs.code.Bodies.{begun}
use Rattle.abnf_parser.proofs.Languages.{Rest, BodyThen}

-- the document that has these declarations and rules
abbrev pub IsOf : WrittenDocument → List Declaration → List WrittenRule → Type 0
IsOf document ds rules = document ≡ record { declarations = ds; rules = rules }

-- ---- rules

-- more rules
abbrev pub RulesThen : WrittenDocument → List Declaration → List WrittenRule → List Lexeme → Type 0
RulesThen document ds before xs = (rules : List Rule) × (xs ≡ rules_spelled rules []) × IsOf document ds (rules_meant before rules)

-- behind the body of a rule
abbrev pub BehindRule : WrittenDocument → List Declaration → List WrittenRule → Bool → Spanned → Rest
BehindRule document ds before public name body xs = RulesThen document ds (before ++ record { public = public; name = name; body = body } ∷ []) xs

-- behind its name
abbrev pub NamedThen : WrittenDocument → List Declaration → List WrittenRule → Bool → Spanned → List Lexeme → Type 0
NamedThen document ds before public name xs = (ys : List Lexeme) × (xs ≡ l.Sign sign.Equals ∷ ys) × BodyThen (BehindRule document ds before public name) begun ys

-- before its name
abbrev pub ScopedThen : WrittenDocument → List Declaration → List WrittenRule → Bool → List Lexeme → Type 0
ScopedThen document ds before public xs = (name : Spanned) × (ys : List Lexeme) × (xs ≡ l.Name name ∷ ys) × NamedThen document ds before public name ys

-- ---- declarations

-- what follows from here to the end of the declaration
abbrev pub row : Expected → List (Lexeme → Bool)
row e.Code = is_lang ∷ is_semicolon ∷ []
row e.ModeName = is_mode ∷ is_semicolon ∷ []
row e.RuleName = is_name ∷ is_semicolon ∷ []
row e.Untyped = is_untyped ∷ is_semicolon ∷ []
row e.Angle = is_angle ∷ is_semicolon ∷ []
row e.MetaName = is_quoted ∷ is_is ∷ is_quoted ∷ is_semicolon ∷ []
row e.Is = is_is ∷ is_quoted ∷ is_semicolon ∷ []
row e.Content = is_quoted ∷ is_semicolon ∷ []
row e.Semicolon = is_semicolon ∷ []

-- more declarations, and then rules
abbrev pub DeclarationsThen : WrittenDocument → List Declaration → List WrittenRule → List Lexeme → Type 0
DeclarationsThen document ds before xs =
    (more : List Declaration) × AreDeclarations more × (rules : List Rule) × (xs ≡ declarations_spelled more (rules_spelled rules []))
    × IsOf document (ds ++ more) (rules_meant before rules)

-- the declaration with more lexemes
abbrev pub with_others : Declaration → List Lexeme → Declaration
with_others d others = record { keyword = d.keyword; span = d.span; others = d.others ++ others }

-- in a declaration
abbrev pub DeclaringThen : WrittenDocument → List Declaration → List WrittenRule → Declaration → List (Lexeme → Bool) → List Lexeme → Type 0
DeclaringThen document ds before d others xs =
    (ls : List Lexeme) × Follows others ls × (ys : List Lexeme) × (xs ≡ ls ++ ys) × DeclarationsThen document (ds ++ with_others d ls ∷ []) before ys

-- ---- anywhere

abbrev pub PhaseThen : WrittenDocument → List Declaration → List WrittenRule → Phase → List Lexeme → Type 0
PhaseThen document ds before p.Declarations xs = DeclarationsThen document ds before xs
PhaseThen document ds before p.Rules xs = RulesThen document ds before xs
PhaseThen document ds before (p.Declaring d expected) xs = DeclaringThen document ds before d (row expected) xs
PhaseThen document ds before (p.Scoped public) xs = ScopedThen document ds before public xs
PhaseThen document ds before (p.Named public name) xs = NamedThen document ds before public name xs
PhaseThen document ds before (p.Inside public name body) xs = BodyThen (BehindRule document ds before public name) body xs

-- these lexemes end what is read so far as this document
abbrev pub Lang : WrittenDocument → Reader → List Lexeme → Type 0
Lang document r xs = PhaseThen document r.declarations r.rules r.phase xs
