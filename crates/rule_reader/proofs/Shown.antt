-- Where all leaves of a document stand: each lexeme stands in the text, so each leaf does.
use Rattle.std.proofs.Common.{◌≡◌, ◌⊎◌, inl, inr, Bool, true, false, cond, ℕ, zero, suc, ◌<◌, ◌+◌, ◌≤◌, List, [], ◌∷◌, ◌++◌, length, get_or, Option, Some, None, refl, sym, ap, subst, ◌∙◌, arith}
use Rattle.std.specs.Prelude.{slice_get, All}
use Rattle.std.specs.List.{AllByRecursion}
use Rattle.std.proofs.lemmas.Option.{slice_get-get_or, slice_get_cases, same_Some}
use Rattle.vg_base.specs.Cut.{Piece}
use Rattle.abnf_lexer.specs.declared.lexemes.LexKind.{LexKind}
use Rattle.abnf_lexer.specs.declared.lexemes.LexKind.TheVariants as kind
use Rattle.abnf_lexer.specs.declared.lexemes.Spanned.{Spanned}
use Rattle.std.specs.List.{filter_map}
use Rattle.abnf_lexer.specs.Lexemes.{placed_pieces, spanned, spelled}
use Rattle.abnf_lexer.proofs.OneAnswer.{one_spelling}
use Rattle.abnf_lexer.specs.Lexing.{IsWithin, Shows, ShowsEach}
use Rattle.abnf_parser.specs.declared.lexeme.AngleForm.{AngleForm}
use Rattle.abnf_parser.specs.declared.lexeme.AngleForm.TheVariants as angle
use Rattle.abnf_parser.specs.declared.lexeme.BareWord.{BareWord}
use Rattle.abnf_parser.specs.declared.lexeme.Sign.TheVariants as sign
use Rattle.abnf_parser.specs.declared.lexeme.Lexeme.{Lexeme}
use Rattle.abnf_parser.specs.declared.lexeme.Lexeme.TheVariants as l
use Rattle.abnf_parser.specs.declared.written.Declaration.{Declaration}
use Rattle.abnf_parser.specs.declared.written.WrittenRule.{WrittenRule}
use Rattle.abnf_parser.specs.declared.written.WrittenDocument.{WrittenDocument}
use Rattle.abnf_parser.specs.Roles.{StandsAs, Stands, HasAngleForm}
use Rattle.abnf_parser.specs.Documents.{Scope, unsaid, said_public, said_private, Rule, scope_spelled, rules_spelled, declarations_spelled, rule_meant, rules_meant}
use Rattle.abnf_parser.specs.Texts.{EachStands, IsWritten}
use Rattle.abnf_lexer.proofs.Spans.{shows_in, parts_in, lexemes_in, within}
use Rattle.rule_reader.specs.Context.{once, same, first_by, argument, span_of}
use Rattle.rule_reader.specs.Leaves.{Leaf, token, name, reference, tag, weight, times}
use Rattle.rule_reader.specs.Standing as standing
use Rattle.rule_reader.specs.code.Walks.{IsShown, IsTurned, LeafShown, ThereShown, DeclarationShown, RuleShown, DocumentShown}
use Rattle.rule_reader.proofs.LeafPlaces.{of_all}

-- ---- lists

to_all : {X : Type 0} (P : X → Type 0) (xs : List X) → AllByRecursion P xs → All P xs
to_all P [] h k d within = absurd (omega arith)
to_all P (x ∷ xs) h zero d within = h.0
to_all P (x ∷ xs) h (suc k) d within = to_all P xs h.1 k d (omega arith)

pub to_each : {X : Type 0} (P : X → Type 0) (xs : List X) → All P xs → AllByRecursion P xs
to_each P [] h = tt
to_each P (x ∷ xs) h = (h zero x (omega arith), to_each P xs (λ k d within. h (suc k) d (omega arith)))

one_at_end : {X : Type 0} (P : X → Type 0) (xs : List X) (x : X) → AllByRecursion P xs → P x → AllByRecursion P (xs ++ x ∷ [])
one_at_end P [] x h p = (p, tt)
one_at_end P (y ∷ xs) x h p = (h.0, one_at_end P xs x h.1 p)

front_of : {X : Type 0} (P : X → Type 0) (xs ys : List X) → AllByRecursion P (xs ++ ys) → AllByRecursion P xs × AllByRecursion P ys
front_of P [] ys h = (tt, h)
front_of P (x ∷ xs) ys h = let more = front_of P xs ys h.1 in ((h.0, more.0), more.1)

element : {X : Type 0} (xs : List X) (n : ℕ) → n < length xs → (x : X) × (slice_get xs n ≡ Some x)
element {X} xs n h = by_cases (slice_get_cases xs n).1
  where
    by_cases : ((x : X) × (n < length xs) × (slice_get xs n ≡ Some x) × (get_or xs n x ≡ x)) ⊎ ((length xs ≤ n) × (slice_get xs n ≡ None)) → (x : X) × (slice_get xs n ≡ Some x)
    by_cases (inl q) = (q.0, q.2)
    by_cases (inr q) = let past = q.0 in absurd (omega arith)

module _ (text : List ℕ) where
  -- ---- lexemes

  -- the lexeme stands in the text, and a repeat is one
  abbrev Lex : Lexeme → Type 0
  Lex (l.Bare word span) = IsShown text span
  Lex (l.Quoted span) = IsShown text span
  Lex (l.Name span) = IsShown text span
  Lex (l.UriRef span) = IsShown text span
  Lex (l.Angle angle.Repeat span) = IsTurned text span
  Lex (l.Angle form span) = IsShown text span
  Lex (l.Weight span) = IsShown text span
  Lex (l.Language span) = Unit {0}
  Lex (l.Tag span) = IsShown text span
  Lex (l.Sign s) = Unit {0}

  at_angle : (span : Spanned) (form : AngleForm) (piece : Piece LexKind) → IsShown text span → Shows text span piece → HasAngleForm form piece.slice → Lex (l.Angle form span)
  at_angle span angle.Repeat piece h s f = record { shown = h; least = f.0; most = f.1; chance = f.2; has = record { slice = piece.slice; stands = (piece, s, refl); is_repeat = f.3 } }
  at_angle span angle.Plain piece h s f = h
  at_angle span angle.Typed piece h s f = h

  of_kind : (k : LexKind) (span : Spanned) (piece : Piece LexKind) (x : Lexeme) → IsShown text span → Shows text span piece → StandsAs k span piece.slice x → Lex x
  of_kind kind.Bare span piece x h s p = subst Lex (sym p.2) h
  of_kind kind.Quoted span piece x h s p = subst Lex (sym p) h
  of_kind kind.Name span piece x h s p = subst Lex (sym p) h
  of_kind kind.UriRef span piece x h s p = subst Lex (sym p) h
  of_kind kind.Angle span piece x h s p = subst Lex (sym p.2) (at_angle span p.0 piece h s p.1)
  of_kind kind.Weight span piece x h s p = subst Lex (sym p) h
  of_kind kind.Language span piece x h s p = subst Lex (sym p) tt
  of_kind kind.Tag span piece x h s p = subst Lex (sym p) h
  of_kind kind.Sign span piece x h s p = subst Lex (sym p.2) tt

  lexemes_shown : (spans : List Spanned) (pieces : List (Piece LexKind)) (lexemes : List Lexeme) → All (IsWithin text) spans → ShowsEach text spans pieces → EachStands spans pieces lexemes
      → AllByRecursion Lex lexemes
  lexemes_shown spans pieces lexemes within shows stand = to_each Lex lexemes at
    where
      at : (k : ℕ) (d : Lexeme) → k < length lexemes → Lex (get_or lexemes k d)
      at k d below =
          let span = element spans k (omega (arith, stand.as_lexemes)) in
          let piece = element pieces k (omega (arith, stand.as_lexemes, stand.as_pieces)) in
          let s = shows.each k span.0 piece.0 span.1 piece.1 in
          of_kind span.0.kind span.0 piece.0 (get_or lexemes k d) (record {
            within = subst (IsWithin text) (same_Some (get_or spans k span.0) span.0 (sym (slice_get-get_or spans k span.0 (omega (arith, stand.as_lexemes))) ∙ span.1)) (within k span.0 (omega (arith, stand.as_lexemes)));
            piece = piece.0;
            shows = s;
          }) s
          (stand.each k span.0 piece.0 (get_or lexemes k d) span.1 piece.1 (slice_get-get_or lexemes k d below))

  -- ---- what is asked of the leaves

  leaf_of : (x : Lexeme) → Lex x → standing.Stands (LeafShown text) x
  leaf_of (l.Bare word span) h = h
  leaf_of (l.Quoted span) h = h
  leaf_of (l.Name span) h = h
  leaf_of (l.UriRef span) h = h
  leaf_of (l.Angle angle.Repeat span) h = h
  leaf_of (l.Angle angle.Plain span) h = tt
  leaf_of (l.Angle angle.Typed span) h = tt
  leaf_of (l.Weight span) h = h
  leaf_of (l.Language span) h = tt
  leaf_of (l.Tag span) h = h
  leaf_of (l.Sign s) h = tt

  leaves_of_all : (xs : List Lexeme) → AllByRecursion Lex xs → standing.All (LeafShown text) xs
  leaves_of_all [] h = tt
  leaves_of_all (x ∷ xs) h = (leaf_of x h.0, leaves_of_all xs h.1)

  -- ---- declarations

  argument_shown : (x : Lexeme) → Lex x → ThereShown text (span_of (Some x))
  argument_shown (l.Bare word span) h = tt
  argument_shown (l.Quoted span) h = tt
  argument_shown (l.Name span) h = h
  argument_shown (l.UriRef span) h = tt
  argument_shown (l.Angle angle.Repeat span) h = h.shown
  argument_shown (l.Angle angle.Plain span) h = h
  argument_shown (l.Angle angle.Typed span) h = h
  argument_shown (l.Weight span) h = tt
  argument_shown (l.Language span) h = tt
  argument_shown (l.Tag span) h = tt
  argument_shown (l.Sign s) h = tt

  one_declaration : (d : Declaration) (others : List Lexeme) → AllByRecursion Lex others → d.others ≡ others → DeclarationShown text d
  one_declaration d [] h e = subst (λ (xs : List Lexeme). ThereShown text (span_of (argument (Some (record d { others = xs }))))) (sym e) tt
  one_declaration d (x ∷ others) h e = subst (λ (xs : List Lexeme). ThereShown text (span_of (argument (Some (record d { others = xs }))))) (sym e) (argument_shown x h.0)

  declarations_shown : (ds : List Declaration) (rest : List Lexeme) → AllByRecursion Lex (declarations_spelled ds rest) → AllByRecursion (DeclarationShown text) ds × AllByRecursion Lex rest
  declarations_shown [] rest h = (tt, h)
  declarations_shown (d ∷ ds) rest h =
      let parts = front_of Lex d.others (declarations_spelled ds rest) h.1 in
      let more = declarations_shown ds rest parts.1 in
      ((one_declaration d d.others parts.0 refl, more.0), more.1)

  -- ---- rules

  behind_scope : (scope : Scope) (rest : List Lexeme) → standing.All (LeafShown text) (scope_spelled scope rest) → standing.All (LeafShown text) rest
  behind_scope unsaid rest h = h
  behind_scope (said_public span) rest h = h.1
  behind_scope (said_private span) rest h = h.1

  rules_shown : (before : List WrittenRule) (rules : List Rule) → AllByRecursion (RuleShown text) before → standing.All (LeafShown text) (rules_spelled rules [])
      → AllByRecursion (RuleShown text) (rules_meant before rules)
  rules_shown before [] h a = h
  rules_shown before (rule ∷ rules) h a =
      let named = behind_scope rule.scope _ a in
      let body = of_all (LeafShown text) rule.body (l.Sign sign.Semicolon ∷ rules_spelled rules []) named.1.1 in
      rules_shown (before ++ rule_meant rule ∷ []) rules (one_at_end (RuleShown text) before (rule_meant rule) h (record { name = named.0; body = body.0 })) body.1.1

  -- ---- the document

  pub shown : (document : WrittenDocument) → IsWritten text document → DocumentShown text document
  shown document h =
      let has = h.has in
      let are = has.are in
      let pieces = filter_map spelled (placed_pieces are.cut) in
      let parts = parts_in text are.cut in
      let each : All (IsWithin text) (filter_map spanned (placed_pieces are.cut)) = λ k d below. within text _ (lexemes_in text (placed_pieces are.cut) parts k d below) in
      let in_text : All (IsWithin text) h.spans = subst (λ (ss : List Spanned). All (IsWithin text) ss) (sym are.lexemes) each in
      let in_order : ShowsEach text h.spans pieces = subst (λ (ss : List Spanned). ShowsEach text ss pieces) (sym are.lexemes) (shows_in text (placed_pieces are.cut) parts) in
      let same : has.pieces ≡ pieces = one_spelling text has.pieces pieces has.has (record { cut = are.cut; faultless = are.faultless; spelled = refl }) in
      let shows : ShowsEach text h.spans has.pieces = subst (λ (ps : List (Piece LexKind)). ShowsEach text h.spans ps) (sym same) in_order in
      let lexemes = lexemes_shown h.spans has.pieces h.lexemes in_text shows has.stand in
      let spells = h.spells.spells in
      let split = declarations_shown spells.declarations (rules_spelled spells.rules []) (subst (AllByRecursion Lex) spells.spelled lexemes) in
      let rules = rules_shown [] spells.rules tt (leaves_of_all (rules_spelled spells.rules []) split.1) in
      subst (DocumentShown text) (sym spells.meant) (record { declarations = to_all (DeclarationShown text) spells.declarations split.0; rules = to_all (RuleShown text) (rules_meant [] spells.rules) rules })

one_of_both : (text : List ℕ) (b : Bool) (d : Declaration) (other : Option Declaration) → DeclarationShown text d → ThereShown text (span_of (argument other))
    → ThereShown text (span_of (argument (cond b (Some d) other)))
one_of_both text true d other h k = h
one_of_both text false d other h k = k

first_by_shown : (text : List ℕ) (keyword : BareWord) (ds : List Declaration) → AllByRecursion (DeclarationShown text) ds → ThereShown text (span_of (argument (first_by keyword ds)))
first_by_shown text keyword [] h = tt
first_by_shown text keyword (d ∷ ds) h = one_of_both text (same (once keyword) (once d.keyword)) d (first_by keyword ds) h.0 (first_by_shown text keyword ds h.1)

pub argument_of_shown : (text : List ℕ) (keyword : BareWord) (ds : List Declaration) → All (DeclarationShown text) ds → ThereShown text (span_of (argument (first_by keyword ds)))
argument_of_shown text keyword ds h = first_by_shown text keyword ds (to_each (DeclarationShown text) ds h)
