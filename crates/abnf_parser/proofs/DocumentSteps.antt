-- A lexeme takes what may still come in a document to what may come behind it, and nothing else goes on; where nothing comes, the document ends.
use Rattle.std.proofs.Common.{◌≡◌, Bool, true, false, List, [], ◌∷◌, ◌++◌, Option, Some, None, refl, sym, subst, ap, ◌∙◌, append_assoc}
use Rattle.std.proofs.lemmas.List.{append-nil}
use Rattle.std.proofs.lemmas.Option.{none-some, same_Some}
use Rattle.abnf_lexer.specs.declared.lexemes.Spanned.{Spanned}
use Rattle.abnf_parser.specs.declared.lexeme.BareWord.{BareWord}
use Rattle.abnf_parser.specs.declared.lexeme.BareWord.TheVariants as word
use Rattle.abnf_parser.specs.declared.lexeme.Sign.TheVariants as sign
use Rattle.abnf_parser.specs.declared.lexeme.Lexeme.{Lexeme}
use Rattle.abnf_parser.specs.declared.lexeme.Lexeme.TheVariants as l
use Rattle.abnf_parser.specs.declared.written.Declaration.{Declaration}
use Rattle.abnf_parser.specs.declared.written.WrittenRule.{WrittenRule}
use Rattle.abnf_parser.specs.declared.written.WrittenDocument.{WrittenDocument}
use Rattle.abnf_parser.specs.declared.machine.stack.Body.{Body}
use Rattle.abnf_parser.specs.declared.machine.stack.Turn.{Turn}
use Rattle.abnf_parser.specs.declared.machine.stack.Turn.TheVariants as t
use Rattle.abnf_parser.specs.declared.machine.stack.Expected.{Expected}
use Rattle.abnf_parser.specs.declared.machine.stack.Expected.TheVariants as expect
use Rattle.abnf_parser.specs.declared.machine.stack.Phase.{Phase}
use Rattle.abnf_parser.specs.declared.machine.stack.Phase.TheVariants as p
use Rattle.abnf_parser.specs.declared.machine.stack.Reader.{Reader}
use Rattle.abnf_parser.specs.Declarations.{form, Follows}
use Rattle.abnf_parser.specs.Expansions.{alternatives_spelled}
use Rattle.abnf_parser.specs.Documents.{Scope, unsaid, said_public, said_private, Rule, scope_spelled, is_public, rules_spelled, declarations_spelled, AreDeclarations, rules_meant}
use Rattle.abnf_parser.specs.code.Bodies.{turn}
use Rattle.abnf_parser.specs.code.Readers.{accepts, next_expected, at, declared, further, on_rules, on_declarations, on_turn, in_phase, result_of}
use Rattle.abnf_parser.proofs.Languages.{Whole, BodyThen, TurnThen, from_alternatives, to_alternatives}
use Rattle.abnf_parser.proofs.BodySteps as body
use Rattle.abnf_parser.proofs.DocumentLanguages.{IsOf, RulesThen, BehindRule, NamedThen, ScopedThen, row, DeclarationsThen, with_others, DeclaringThen, PhaseThen, Lang}

abbrev scope_word : Scope → BareWord
scope_word (said_public span) = word.Public
scope_word _ = word.Private

abbrev rest_of : Option Expected → List (Lexeme → Bool)
rest_of None = []
rest_of (Some expected) = row expected

row_is : (expected : Expected) → row expected ≡ accepts expected ∷ rest_of (next_expected expected)
row_is expect.Code = refl
row_is expect.ModeName = refl
row_is expect.RuleName = refl
row_is expect.Untyped = refl
row_is expect.Angle = refl
row_is expect.MetaName = refl
row_is expect.Is = refl
row_is expect.Content = refl
row_is expect.Semicolon = refl

-- a declaration of which the keyword alone was read
abbrev keyed : BareWord → Spanned → Declaration
keyed keyword span = record { keyword = keyword; span = span; others = [] }

false-true : false ≡ true → ⊥
false-true e = cc

module _ (document : WrittenDocument) (ds : List Declaration) (before : List WrittenRule) where
  -- what may come behind a step
  abbrev After : Option Reader → List Lexeme → Type 0
  After None xs = ⊥
  After (Some r) xs = Lang document r xs

  -- the machine goes on, or ends with the document
  abbrev Goes : Phase → List Lexeme → Type 0
  Goes phase [] = result_of (at ds before phase) ≡ Some document
  Goes phase (x ∷ xs) = After (in_phase ds before phase x) xs

  -- ---- in a rule

  turn_forward : (public : Bool) (name : Spanned) (turned : Turn) (xs : List Lexeme) → TurnThen (BehindRule document ds before public name) turned xs → After (on_turn ds before public name turned) xs
  turn_forward public name (t.On body) xs q = q
  turn_forward public name (t.Ended x) xs q = q
  turn_forward public name t.Unfit xs q = q

  turn_back : (public : Bool) (name : Spanned) (turned : Turn) (xs : List Lexeme) → After (on_turn ds before public name turned) xs → TurnThen (BehindRule document ds before public name) turned xs
  turn_back public name (t.On body) xs q = q
  turn_back public name (t.Ended x) xs q = q
  turn_back public name t.Unfit xs q = q

  inside_forward : (public : Bool) (name : Spanned) (b : Body) (xs : List Lexeme) → BodyThen (BehindRule document ds before public name) b xs → Goes (p.Inside public name b) xs
  inside_forward public name b [] q = absurd (body.forward (BehindRule document ds before public name) b [] q)
  inside_forward public name b (x ∷ xs) q = turn_forward public name (turn b x) xs (body.forward (BehindRule document ds before public name) b (x ∷ xs) q)

  no_result : (phase : Phase) → result_of (at ds before phase) ≡ None → result_of (at ds before phase) ≡ Some document → ⊥
  no_result phase e h = cc

  inside_back : (public : Bool) (name : Spanned) (b : Body) (xs : List Lexeme) → Goes (p.Inside public name b) xs → BodyThen (BehindRule document ds before public name) b xs
  unfolding result_of
  inside_back public name b [] q = absurd (no_result (p.Inside public name b) refl q)
  inside_back public name b (x ∷ xs) q = body.backward (BehindRule document ds before public name) b (x ∷ xs) (turn_back public name (turn b x) xs q)

  named_forward : (public : Bool) (name : Spanned) (xs : List Lexeme) → NamedThen document ds before public name xs → Goes (p.Named public name) xs
  named_forward public name xs q = subst (Goes (p.Named public name)) (sym q.1) q.2

  named_back : (public : Bool) (name : Spanned) (xs : List Lexeme) → Goes (p.Named public name) xs → NamedThen document ds before public name xs
  unfolding result_of
  named_back public name [] q = absurd (no_result (p.Named public name) refl q)
  named_back public name (l.Sign sign.Equals ∷ xs) q = (xs, refl, q)
  named_back public name (_ ∷ xs) q = absurd q

  scoped_forward : (public : Bool) (xs : List Lexeme) → ScopedThen document ds before public xs → Goes (p.Scoped public) xs
  scoped_forward public xs q = subst (Goes (p.Scoped public)) (sym q.2) q.3

  scoped_back : (public : Bool) (xs : List Lexeme) → Goes (p.Scoped public) xs → ScopedThen document ds before public xs
  unfolding result_of
  scoped_back public [] q = absurd (no_result (p.Scoped public) refl q)
  scoped_back public (l.Name name ∷ xs) q = (name, xs, refl, q)
  scoped_back public (_ ∷ xs) q = absurd q

  -- ---- before a rule

  -- a rule and what follows it, from its name on
  rule_named : (rule : Rule) (rules : List Rule) → IsOf document ds (rules_meant before (rule ∷ rules))
      → NamedThen document ds before (is_public rule.scope) rule.name (l.Sign sign.Equals ∷ alternatives_spelled rule.body (l.Sign sign.Semicolon ∷ rules_spelled rules []))
  rule_named rule rules is = (
    _,
    refl,
    from_alternatives (Whole (BehindRule document ds before (is_public rule.scope) rule.name) []) rule.body (l.Sign sign.Semicolon ∷ rules_spelled rules [])
        (rules_spelled rules [], refl, (rules, refl, is)),
  )

  rules_forward_at : (rules : List Rule) → IsOf document ds (rules_meant before rules) → Goes p.Rules (rules_spelled rules [])
  unfolding result_of on_rules
  rules_forward_at [] is = ap Some (sym is)
  rules_forward_at (rule ∷ rules) is = by_scope rule.scope (rule_named rule rules is)
    where
      by_scope : (scope : Scope) → NamedThen document ds before (is_public scope) rule.name (l.Sign sign.Equals ∷ alternatives_spelled rule.body (l.Sign sign.Semicolon ∷ rules_spelled rules []))
          → Goes p.Rules (scope_spelled scope (l.Name rule.name ∷ l.Sign sign.Equals ∷ alternatives_spelled rule.body (l.Sign sign.Semicolon ∷ rules_spelled rules [])))
      by_scope unsaid n = n
      by_scope (said_public span) n = (rule.name, _, refl, n)
      by_scope (said_private span) n = (rule.name, _, refl, n)

  rules_forward : (xs : List Lexeme) → RulesThen document ds before xs → Goes p.Rules xs
  rules_forward xs q = subst (Goes p.Rules) (sym q.1) (rules_forward_at q.0 q.2)

  named_rule : (scope : Scope) (name : Spanned) (xs : List Lexeme) → NamedThen document ds before (is_public scope) name xs → RulesThen document ds before (scope_spelled scope (l.Name name ∷ xs))
  named_rule scope name xs q =
      let inner = to_alternatives (Whole (BehindRule document ds before (is_public scope) name) []) q.0 q.2 in
      let end = inner.3 in
      let rules = end.2 in
      let spelled : xs ≡ l.Sign sign.Equals ∷ alternatives_spelled inner.0 (l.Sign sign.Semicolon ∷ rules_spelled rules.0 []) =
      q.1 ∙ ap (λ ys. l.Sign sign.Equals ∷ ys) (inner.2 ∙ ap (alternatives_spelled inner.0) (end.1 ∙ ap (λ ys. l.Sign sign.Semicolon ∷ ys) rules.1)) in
      (record { scope = scope; name = name; body = inner.0 } ∷ rules.0, ap (λ ys. scope_spelled scope (l.Name name ∷ ys)) spelled, rules.2)

  scoped_rule : (scope : Scope) (span : Spanned) (xs : List Lexeme) → ((ys : List Lexeme) → scope_spelled scope ys ≡ l.Bare (scope_word scope) span ∷ ys)
      → ScopedThen document ds before (is_public scope) xs → RulesThen document ds before (l.Bare (scope_word scope) span ∷ xs)
  scoped_rule scope span xs e q =
      subst (RulesThen document ds before) (e xs) (subst (λ ys. RulesThen document ds before (scope_spelled scope ys)) (sym q.2) (named_rule scope q.0 q.1 q.3))

  is_of : (d : WrittenDocument) → Some d ≡ Some document → document ≡ d
  is_of d e = sym (same_Some d document e)

  rules_back : (xs : List Lexeme) → Goes p.Rules xs → RulesThen document ds before xs
  unfolding result_of on_rules
  rules_back [] q = ([], refl, is_of _ q)
  rules_back (l.Bare word.Public span ∷ xs) q = scoped_rule (said_public span) span xs (λ ys. refl) q
  rules_back (l.Bare word.Private span ∷ xs) q = scoped_rule (said_private span) span xs (λ ys. refl) q
  rules_back (l.Name name ∷ xs) q = named_rule unsaid name xs q
  rules_back (_ ∷ xs) q = absurd q

  -- ---- in a declaration

  -- a declaration with a lexeme and then others
  one_by_one : (d : Declaration) (x : Lexeme) (ls : List Lexeme) → with_others (declared d x) ls ≡ with_others d (x ∷ ls)
  one_by_one d x ls = ap (λ others. record { keyword = d.keyword; span = d.span; others = others }) (append_assoc d.others (x ∷ []) ls)

  further_forward : (d : Declaration) (x : Lexeme) (next : Option Expected) (ls ys : List Lexeme) → Follows (rest_of next) ls
      → DeclarationsThen document (ds ++ with_others d (x ∷ ls) ∷ []) before ys → Lang document (further ds before (declared d x) next) (ls ++ ys)
  further_forward d x None ls ys f q =
      subst (λ ms. DeclarationsThen document (ds ++ declared d x ∷ []) before (ms ++ ys)) (sym f) (subst (λ ms. DeclarationsThen document (ds ++ with_others d (x ∷ ms) ∷ []) before ys) f q)
  further_forward d x (Some expected) ls ys f q =
      (ls, f, ys, refl, subst (λ c. DeclarationsThen document (ds ++ c ∷ []) before ys) (sym (one_by_one d x ls)) q)

  further_back : (d : Declaration) (x : Lexeme) (next : Option Expected) (is_next : Lexeme → Bool) (xs : List Lexeme) → is_next x ≡ true
      → Lang document (further ds before (declared d x) next) xs → DeclaringThen document ds before d (is_next ∷ rest_of next) (x ∷ xs)
  further_back d x None is_next xs a q = (x ∷ [], (a, refl), xs, refl, q)
  further_back d x (Some expected) is_next xs a q =
      (x ∷ q.0, (a, q.1), q.2, ap (λ ys. x ∷ ys) q.3, subst (λ c. DeclarationsThen document (ds ++ c ∷ []) before q.2) (one_by_one d x q.0) q.4)

  accepted : (r : Reader) (b : Bool) (xs : List Lexeme) → b ≡ true → Lang document r xs → After (elim b [ true ↦ Some r | false ↦ None ]) xs
  accepted r true xs e q = q
  accepted r false xs e q = absurd (false-true e)

  was_accepted : (r : Reader) (b : Bool) (xs : List Lexeme) → After (elim b [ true ↦ Some r | false ↦ None ]) xs → (b ≡ true) × Lang document r xs
  was_accepted r true xs q = (refl, q)
  was_accepted r false xs q = absurd q

  declaring_at : (d : Declaration) (expected : Expected) (ls ys : List Lexeme) → Follows (accepts expected ∷ rest_of (next_expected expected)) ls
      → DeclarationsThen document (ds ++ with_others d ls ∷ []) before ys → Goes (p.Declaring d expected) (ls ++ ys)
  declaring_at d expected [] ys f q = absurd f
  declaring_at d expected (x ∷ ls) ys f q =
      accepted (further ds before (declared d x) (next_expected expected)) (accepts expected x) (ls ++ ys) f.0 (further_forward d x (next_expected expected) ls ys f.1 q)

  declaring_forward : (d : Declaration) (expected : Expected) (xs : List Lexeme) → DeclaringThen document ds before d (row expected) xs → Goes (p.Declaring d expected) xs
  declaring_forward d expected xs q =
      subst (Goes (p.Declaring d expected)) (sym q.3) (declaring_at d expected q.0 q.2 (subst (λ r. Follows r q.0) (row_is expected) q.1) q.4)

  declaring_back : (d : Declaration) (expected : Expected) (xs : List Lexeme) → Goes (p.Declaring d expected) xs → DeclaringThen document ds before d (row expected) xs
  unfolding result_of
  declaring_back d expected [] q = absurd (no_result (p.Declaring d expected) refl q)
  declaring_back d expected (x ∷ xs) q =
      let a = was_accepted (further ds before (declared d x) (next_expected expected)) (accepts expected x) xs q in
      subst (λ r. DeclaringThen document ds before d r (x ∷ xs)) (sym (row_is expected)) (further_back d x (next_expected expected) (accepts expected) xs a.0 a.1)

  -- ---- before a declaration or a rule

  rules_may_begin : (xs : List Lexeme) → Goes p.Rules xs → Goes p.Declarations xs
  unfolding result_of on_rules on_declarations
  rules_may_begin [] q = q
  rules_may_begin (l.Bare word.Public span ∷ xs) q = q
  rules_may_begin (l.Bare word.Private span ∷ xs) q = q
  rules_may_begin (l.Name name ∷ xs) q = q
  rules_may_begin (_ ∷ xs) q = absurd q

  -- the keyword's row
  with_row : (d : Declaration) (others others' : List (Lexeme → Bool)) (xs : List Lexeme) → Some others' ≡ Some others → DeclaringThen document ds before d others xs → DeclaringThen document ds before d others' xs
  with_row d others others' xs e q = subst (λ r. DeclaringThen document ds before d r xs) (sym (same_Some others' others e)) q

  keyword_forward : (keyword : BareWord) (span : Spanned) (others : List (Lexeme → Bool)) (xs : List Lexeme) → form keyword ≡ Some others → DeclaringThen document ds before (keyed keyword span) others xs
      → Goes p.Declarations (l.Bare keyword span ∷ xs)
  unfolding on_declarations
  keyword_forward word.Language span others xs e q = with_row (keyed word.Language span) others (row expect.Code) xs e q
  keyword_forward word.Mode span others xs e q = with_row (keyed word.Mode span) others (row expect.ModeName) xs e q
  keyword_forward word.Root span others xs e q = with_row (keyed word.Root span) others (row expect.RuleName) xs e q
  keyword_forward word.TagFormat span others xs e q = with_row (keyed word.TagFormat span) others (row expect.Untyped) xs e q
  keyword_forward word.Base span others xs e q = with_row (keyed word.Base span) others (row expect.Untyped) xs e q
  keyword_forward word.Lexicon span others xs e q = with_row (keyed word.Lexicon span) others (row expect.Angle) xs e q
  keyword_forward word.Meta span others xs e q = with_row (keyed word.Meta span) others (row expect.MetaName) xs e q
  keyword_forward word.HttpEquiv span others xs e q = with_row (keyed word.HttpEquiv span) others (row expect.MetaName) xs e q
  keyword_forward _ span others xs e q = absurd (none-some others e)

  declarations_forward_at : (more : List Declaration) (rules : List Rule) → AreDeclarations more → IsOf document (ds ++ more) (rules_meant before rules)
      → Goes p.Declarations (declarations_spelled more (rules_spelled rules []))
  declarations_forward_at [] rules each is = rules_may_begin (rules_spelled rules []) (rules_forward_at rules (subst (λ cs. IsOf document cs (rules_meant before rules)) (append-nil ds) is))
  declarations_forward_at (d ∷ more) rules each is =
      let i = each.0 in
      keyword_forward d.keyword d.span i.others (d.others ++ declarations_spelled more (rules_spelled rules [])) i.of_keyword (
        d.others,
        i.follows,
        declarations_spelled more (rules_spelled rules []),
        refl,
        (more, each.1, rules, refl, subst (λ cs. IsOf document cs (rules_meant before rules)) (sym (append_assoc ds (d ∷ []) more)) is),
      )

  declarations_forward : (xs : List Lexeme) → DeclarationsThen document ds before xs → Goes p.Declarations xs
  declarations_forward xs q = subst (Goes p.Declarations) (sym q.3) (declarations_forward_at q.0 q.2 q.1 q.4)

  rules_only : (xs : List Lexeme) → RulesThen document ds before xs → DeclarationsThen document ds before xs
  rules_only xs q = ([], tt, q.0, q.1, subst (λ cs. IsOf document cs (rules_meant before q.0)) (sym (append-nil ds)) q.2)

  declared_back : (keyword : BareWord) (span : Spanned) (others : List (Lexeme → Bool)) (xs : List Lexeme) → form keyword ≡ Some others → DeclaringThen document ds before (keyed keyword span) others xs
      → DeclarationsThen document ds before (l.Bare keyword span ∷ xs)
  declared_back keyword span others xs e q =
      let d : Declaration = record { keyword = keyword; span = span; others = q.0 } in
      let more = q.4 in (
        d ∷ more.0,
        (record { others = others; of_keyword = e; follows = q.1 }, more.1),
        more.2,
        ap (λ ys. l.Bare keyword span ∷ ys) (q.3 ∙ ap (λ ys. q.0 ++ ys) more.3),
        subst (λ cs. IsOf document cs (rules_meant before more.2)) (append_assoc ds (d ∷ []) more.0) more.4,
      )

  declarations_back : (xs : List Lexeme) → Goes p.Declarations xs → DeclarationsThen document ds before xs
  unfolding result_of on_declarations on_rules
  declarations_back [] q = rules_only [] (rules_back [] q)
  declarations_back (l.Bare word.Public span ∷ xs) q = rules_only (l.Bare word.Public span ∷ xs) (rules_back (l.Bare word.Public span ∷ xs) q)
  declarations_back (l.Bare word.Private span ∷ xs) q = rules_only (l.Bare word.Private span ∷ xs) (rules_back (l.Bare word.Private span ∷ xs) q)
  declarations_back (l.Bare word.Language span ∷ xs) q = declared_back word.Language span (row expect.Code) xs refl q
  declarations_back (l.Bare word.Mode span ∷ xs) q = declared_back word.Mode span (row expect.ModeName) xs refl q
  declarations_back (l.Bare word.Root span ∷ xs) q = declared_back word.Root span (row expect.RuleName) xs refl q
  declarations_back (l.Bare word.TagFormat span ∷ xs) q = declared_back word.TagFormat span (row expect.Untyped) xs refl q
  declarations_back (l.Bare word.Base span ∷ xs) q = declared_back word.Base span (row expect.Untyped) xs refl q
  declarations_back (l.Bare word.Lexicon span ∷ xs) q = declared_back word.Lexicon span (row expect.Angle) xs refl q
  declarations_back (l.Bare word.Meta span ∷ xs) q = declared_back word.Meta span (row expect.MetaName) xs refl q
  declarations_back (l.Bare word.HttpEquiv span ∷ xs) q = declared_back word.HttpEquiv span (row expect.MetaName) xs refl q
  declarations_back (l.Bare _ span ∷ xs) q = absurd q
  declarations_back (l.Name name ∷ xs) q = rules_only (l.Name name ∷ xs) (rules_back (l.Name name ∷ xs) q)
  declarations_back (_ ∷ xs) q = absurd q

  -- ---- anywhere

  pub phase_forward : (phase : Phase) (xs : List Lexeme) → PhaseThen document ds before phase xs → Goes phase xs
  phase_forward p.Declarations xs q = declarations_forward xs q
  phase_forward p.Rules xs q = rules_forward xs q
  phase_forward (p.Declaring d expected) xs q = declaring_forward d expected xs q
  phase_forward (p.Scoped public) xs q = scoped_forward public xs q
  phase_forward (p.Named public name) xs q = named_forward public name xs q
  phase_forward (p.Inside public name body) xs q = inside_forward public name body xs q

  pub phase_back : (phase : Phase) (xs : List Lexeme) → Goes phase xs → PhaseThen document ds before phase xs
  phase_back p.Declarations xs q = declarations_back xs q
  phase_back p.Rules xs q = rules_back xs q
  phase_back (p.Declaring d expected) xs q = declaring_back d expected xs q
  phase_back (p.Scoped public) xs q = scoped_back public xs q
  phase_back (p.Named public name) xs q = named_back public name xs q
  phase_back (p.Inside public name body) xs q = inside_back public name body xs q
