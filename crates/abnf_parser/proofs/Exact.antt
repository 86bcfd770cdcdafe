-- The machine of documents is exact.
use Rattle.std.proofs.Common.{◌≡◌, ℕ, Bool, List, [], ◌∷◌, ◌++◌, Result, refl, sym, subst}
use Rattle.abnf_lexer.specs.declared.lexemes.Spanned.{Spanned}
use Rattle.abnf_lexer.specs.declared.lexemes.LexKind.TheVariants as kind
use Rattle.vg_base.specs.Reading.{IsExact, Reads, answer}
use Rattle.vg_base.proofs.Reading as right
use Rattle.abnf_parser.specs.declared.lexeme.BareWord.TheVariants as word
use Rattle.abnf_parser.specs.declared.lexeme.AngleForm.TheVariants as angle
use Rattle.abnf_parser.specs.declared.lexeme.Sign.TheVariants as sign
use Rattle.abnf_parser.specs.declared.lexeme.Lexeme.{Lexeme}
use Rattle.abnf_parser.specs.declared.lexeme.Lexeme.TheVariants as l
use Rattle.abnf_parser.specs.declared.written.Declaration.{Declaration}
use Rattle.abnf_parser.specs.declared.written.WrittenRule.{WrittenRule}
use Rattle.abnf_parser.specs.declared.written.WrittenDocument.{WrittenDocument}
use Rattle.abnf_parser.specs.declared.machine.stack.Body.{Body}
use Rattle.abnf_parser.specs.declared.machine.stack.Expected.{Expected}
use Rattle.abnf_parser.specs.declared.machine.stack.Expected.TheVariants as e
use Rattle.abnf_parser.specs.declared.machine.stack.Phase.{Phase}
use Rattle.abnf_parser.specs.declared.machine.stack.Phase.TheVariants as p
use Rattle.abnf_parser.specs.declared.machine.stack.Reader.{Reader}
use Rattle.abnf_parser.specs.Declarations.{Follows}
use Rattle.abnf_parser.specs.Documents.{Spells}
use Rattle.abnf_parser.specs.code.Bodies.{begun}
use Rattle.abnf_parser.specs.code.Readers.{step, machine}
use Rattle.abnf_parser.proofs.Languages.{BodyThen}
use Rattle.abnf_parser.proofs.BodyEnds as body
use Rattle.abnf_parser.proofs.DocumentLanguages.{BehindRule, row, with_others, DeclarationsThen, PhaseThen, Lang}
use Rattle.abnf_parser.proofs.DocumentSteps.{phase_forward, phase_back}
use Rattle.abnf_parser.proofs.Residuals.{Goes, is_exact}

-- ---- from each state something may come

some_span : Spanned
some_span = record { place = record { line = 1; column = 1 }; from = 0; to = 0; kind = kind.Tag }

semicolon : List Lexeme
semicolon = l.Sign sign.Semicolon ∷ []

filled : (expected : Expected) → (ls : List Lexeme) × Follows (row expected) ls
unfolding semicolon
filled e.Code = (l.Bare word.Code some_span ∷ semicolon, (refl, (refl, refl)))
filled e.ModeName = (l.Bare word.Voice some_span ∷ semicolon, (refl, (refl, refl)))
filled e.RuleName = (l.Name some_span ∷ semicolon, (refl, (refl, refl)))
filled e.Untyped = (l.Angle angle.Plain some_span ∷ semicolon, (refl, (refl, refl)))
filled e.Angle = (l.Angle angle.Plain some_span ∷ semicolon, (refl, (refl, refl)))
filled e.MetaName = (l.Quoted some_span ∷ l.Bare word.Is some_span ∷ l.Quoted some_span ∷ semicolon, (refl, (refl, (refl, (refl, refl)))))
filled e.Is = (l.Bare word.Is some_span ∷ l.Quoted some_span ∷ semicolon, (refl, (refl, (refl, refl))))
filled e.Content = (l.Quoted some_span ∷ semicolon, (refl, (refl, refl)))
filled e.Semicolon = (semicolon, (refl, refl))

Endable : List Declaration → List WrittenRule → Phase → Type 0
Endable ds rules phase = (document : WrittenDocument) × (xs : List Lexeme) × PhaseThen document ds rules phase xs

abbrev documented : List Declaration → List WrittenRule → WrittenDocument
documented ds rules = record { declarations = ds; rules = rules }

no_more : (ds : List Declaration) (rules : List WrittenRule) → DeclarationsThen (documented (ds ++ []) rules) ds rules []
no_more ds rules = ([], tt, [], refl, refl)

-- the document with a rule that is ended as soon as may be
abbrev with_rule : List Declaration → List WrittenRule → Bool → Spanned → Body → WrittenDocument
with_rule ds rules public name b = documented ds (rules ++ record { public = public; name = name; body = body.shortest b some_span } ∷ [])

in_body : (ds : List Declaration) (rules : List WrittenRule) (public : Bool) (name : Spanned) (b : Body)
    → (xs : List Lexeme) × BodyThen (BehindRule (with_rule ds rules public name b) ds rules public name) b xs
in_body ds rules public name b = body.endable (BehindRule (with_rule ds rules public name b) ds rules public name) b some_span [] ([], refl, refl)

phase_endable : (ds : List Declaration) (rules : List WrittenRule) (phase : Phase) → Endable ds rules phase
unfolding Endable
phase_endable ds rules p.Declarations = (documented (ds ++ []) rules, [], no_more ds rules)
phase_endable ds rules p.Rules = (documented ds rules, [], ([], refl, refl))
phase_endable ds rules (p.Declaring d expected) =
    let f = filled expected in
    let cs = ds ++ with_others d f.0 ∷ [] in
    (documented (cs ++ []) rules, f.0 ++ [], (f.0, f.1, [], refl, no_more cs rules))
phase_endable ds rules (p.Scoped public) =
    let b = in_body ds rules public some_span begun in
    (with_rule ds rules public some_span begun, l.Name some_span ∷ l.Sign sign.Equals ∷ b.0, (some_span, _, refl, (b.0, refl, b.1)))
phase_endable ds rules (p.Named public name) =
    let b = in_body ds rules public name begun in (with_rule ds rules public name begun, l.Sign sign.Equals ∷ b.0, (b.0, refl, b.1))
phase_endable ds rules (p.Inside public name b) =
    let e = in_body ds rules public name b in (with_rule ds rules public name b, e.0, e.1)

-- ---- the machine

forward : (document : WrittenDocument) (r : Reader) (xs : List Lexeme) → Lang document r xs → Goes machine Lang document r xs
unfolding step
forward document r [] q = phase_forward document r.declarations r.rules r.phase [] q
forward document r (x ∷ xs) q = phase_forward document r.declarations r.rules r.phase (x ∷ xs) q

backward : (document : WrittenDocument) (r : Reader) (xs : List Lexeme) → Goes machine Lang document r xs → Lang document r xs
unfolding step
backward document r [] q = phase_back document r.declarations r.rules r.phase [] q
backward document r (x ∷ xs) q = phase_back document r.declarations r.rules r.phase (x ∷ xs) q

pub exact : IsExact machine Spells
unfolding Endable
exact = is_exact machine Lang Spells (record {
  opens = λ items document h. (h.declarations, h.each, h.rules, h.spelled, h.meant);
  spells = λ items document q. record { declarations = q.0; rules = q.2; each = q.1; spelled = q.3; meant = q.4 };
  forward = forward;
  backward = backward;
  endable = λ r. phase_endable r.declarations r.rules r.phase;
})

-- so its answer is the right one
pub reads : (lexemes : List Lexeme) (a : Result WrittenDocument ℕ) → a ≡ answer machine lexemes → Reads Spells lexemes a
reads lexemes a e = subst (Reads Spells lexemes) (sym e) (right.reads machine Spells exact lexemes)
