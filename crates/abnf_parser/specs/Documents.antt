-- The grammar of documents (SRGS 1.0 sections 3 and 4, in this project's profile of the ABNF form), behind the header.
use Rattle.std.specs.Prelude.{◌≡◌, Bool, true, false, List, [], ◌∷◌, ◌++◌}
use Rattle.abnf_lexer.specs.declared.lexemes.Spanned.{Spanned}
use Rattle.abnf_parser.specs.declared.lexeme.BareWord.TheVariants as word
use Rattle.abnf_parser.specs.declared.lexeme.Sign.TheVariants as sign
use Rattle.abnf_parser.specs.declared.lexeme.Lexeme.{Lexeme}
use Rattle.abnf_parser.specs.declared.lexeme.Lexeme.TheVariants as l
use Rattle.abnf_parser.specs.declared.written.Declaration.{Declaration}
use Rattle.abnf_parser.specs.declared.written.WrittenRule.{WrittenRule}
use Rattle.abnf_parser.specs.declared.written.WrittenDocument.{WrittenDocument}
use Rattle.abnf_parser.specs.Declarations.{IsDeclaration}
use Rattle.abnf_parser.specs.Expansions.{Alternatives, alternatives_spelled, alternatives_meant}

-- [ "public" | "private" ]
pub data Scope : Type 0 where
  unsaid : Scope
  said_public : Spanned → Scope
  said_private : Spanned → Scope

-- rule = [ "public" | "private" ] Name "=" alternatives ";"
pub record Rule : Type 0 where
  pub scope : Scope
  pub name : Spanned
  pub body : Alternatives

-- ---- how it is spelled, before a rest

abbrev pub scope_spelled : Scope → List Lexeme → List Lexeme
scope_spelled unsaid rest = rest
scope_spelled (said_public span) rest = l.Bare word.Public span ∷ rest
scope_spelled (said_private span) rest = l.Bare word.Private span ∷ rest

abbrev pub rule_spelled : Rule → List Lexeme → List Lexeme
rule_spelled rule rest =
    scope_spelled rule.scope (l.Name rule.name ∷ l.Sign sign.Equals ∷ alternatives_spelled rule.body (l.Sign sign.Semicolon ∷ rest))

abbrev pub rules_spelled : List Rule → List Lexeme → List Lexeme
rules_spelled [] rest = rest
rules_spelled (rule ∷ rules) rest = rule_spelled rule (rules_spelled rules rest)

abbrev pub declaration_spelled : Declaration → List Lexeme → List Lexeme
declaration_spelled d rest = l.Bare d.keyword d.span ∷ (d.others ++ rest)

abbrev pub declarations_spelled : List Declaration → List Lexeme → List Lexeme
declarations_spelled [] rest = rest
declarations_spelled (d ∷ declarations) rest = declaration_spelled d (declarations_spelled declarations rest)

-- ---- which tree it is

-- a rule of which nothing is said is private
abbrev pub is_public : Scope → Bool
is_public unsaid = false
is_public (said_public span) = true
is_public (said_private span) = false

abbrev pub rule_meant : Rule → WrittenRule
rule_meant rule = record { public = is_public rule.scope; name = rule.name; body = alternatives_meant rule.body }

abbrev pub AreDeclarations : List Declaration → Type 0
AreDeclarations [] = Unit {0}
AreDeclarations (d ∷ declarations) = IsDeclaration d × AreDeclarations declarations

-- these rules, and then more
abbrev pub rules_meant : List WrittenRule → List Rule → List WrittenRule
rules_meant before [] = before
rules_meant before (rule ∷ rules) = rules_meant (before ++ rule_meant rule ∷ []) rules

-- document = identity { declaration } { rule }
pub record Spells (lexemes : List Lexeme) (document : WrittenDocument) : Type 0 where
  pub declarations : List Declaration
  pub rules : List Rule
  pub each : AreDeclarations declarations
  pub spelled : lexemes ≡ declarations_spelled declarations (rules_spelled rules [])
  pub meant : document ≡ record { declarations = declarations; rules = rules_meant [] rules }
