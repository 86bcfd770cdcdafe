-- Each text has an answer: it reads as a document, or has a first fault.
use Rattle.std.proofs.Common.{◌≡◌, ◌⊎◌, inl, inr, ℕ, List, [], ◌∷◌, ◌++◌, Option, Some, None, Result, Ok, Err, refl}
use Rattle.std.specs.Prelude.{Contains, not}
use Rattle.std.specs.List.{list_any, AllByRecursion}
use Rattle.vg_base.specs.declared.doc_fault.DocKind.TheVariants.{DeclaredTwice, RuleTwice, Reserved, BadUri, TagFormat, RootMissing}
use Rattle.vg_base.specs.declared.doc_fault.DocFault.{DocFault}
use Rattle.vg_base.specs.declared.format.Format.{Format}
use Rattle.abnf_lexer.specs.declared.lexemes.Spanned.{Spanned}
use Rattle.uri_links.specs.Faults.{reading_fault}
use Rattle.grammar_tree.specs.declared.document.Doc.{Doc}
use Rattle.grammar_tree.specs.declared.document.Rule.{Rule}
use Rattle.abnf_parser.specs.declared.lexeme.BareWord.{BareWord}
use Rattle.abnf_parser.specs.declared.lexeme.BareWord.TheVariants as word
use Rattle.abnf_parser.specs.declared.written.Declaration.{Declaration}
use Rattle.abnf_parser.specs.declared.written.WrittenRule.{WrittenRule}
use Rattle.abnf_parser.specs.declared.written.WrittenDocument.{WrittenDocument}
use Rattle.abnf_parser.specs.Texts.{IsWritten, IsSyntax}
use Rattle.abnf_parser.proofs.OneAnswer.{some_answer_of}
use Rattle.rule_reader.specs.declared.context.Context.{Context}
use Rattle.rule_reader.specs.Context.{once, same, argument, span_of, mode_of, root_of, format_of, base_of, format_named, FormatIs, HasContext}
use Rattle.rule_reader.specs.References.{specials}
use Rattle.rule_reader.specs.LeafFaults.{Told}
use Rattle.rule_reader.specs.Meaning.{IsThere}
use Rattle.rule_reader.specs.DocumentFaults.{IsDeclaredTwice, NameFaults, ArgumentFaults, DeclarationFaults, NamesFaults, RootFaults}
use Rattle.rule_reader.specs.Reading.{IsReading}
use Rattle.rule_reader.specs.code.Walks.{ThereShown, DeclarationShown, RuleShown, DocumentShown, told, IsReadAs, Tells, RulesRead}
use Rattle.rule_reader.proofs.Shown.{shown, argument_of_shown, to_each}
use Rattle.rule_reader.proofs.Told.{adds_none, adds_both, told_unless, told_where}
use Rattle.rule_reader.proofs.Walks.{front_none, back_none}
use Rattle.rule_reader.proofs.DocumentRead.{twice_told, AllRead, answered_ok, answered_err, reading_ok, reading_err}
use Rattle.rule_reader.proofs.SomeMeaning.{after, adds_after, tested, stands_inside, some_walked}
use Rattle.rule_reader.proofs.Decisions.{decide_contains, decide_readable}

decide_format : (f : Option Format) → (f ≡ None) ⊎ (f ≡ None → ⊥)
decide_format None = inl refl
decide_format (Some f) = inr (λ e. cc)

module _ (text : List ℕ) where
  -- ---- declarations

  -- of what a base or a lexicon names
  some_uri : (span : Spanned) (inside : List ℕ) (old : Option DocFault) → (new : Option DocFault) × Tells (Told (reading_fault inside ≡ None → ⊥) span BadUri) old new
  some_uri span inside old =
      let good = tested (decide_readable inside) in (
        after (not good.0) span BadUri old,
        record {
          faults = told (not good.0) span BadUri;
          are = told_unless (reading_fault inside ≡ None) good.0 span BadUri good.1;
          adds = adds_after (not good.0) span BadUri old;
        },
      )

  some_format : (span : Spanned) (inside : List ℕ) (old : Option DocFault) → (new : Option DocFault) × Tells (Told (format_named inside ≡ None) span TagFormat) old new
  some_format span inside old =
      let bad = tested (decide_format (format_named inside)) in (
        after bad.0 span TagFormat old,
        record {
          faults = told bad.0 span TagFormat;
          are = told_where (format_named inside ≡ None) bad.0 span TagFormat bad.1;
          adds = adds_after bad.0 span TagFormat old;
        },
      )

  some_named : (keyword : BareWord) (span : Spanned) (inside : List ℕ) (old : Option DocFault) → (new : Option DocFault) × Tells (NameFaults keyword span inside) old new
  some_named word.Base span inside old = some_uri span inside old
  some_named word.Lexicon span inside old = some_uri span inside old
  some_named word.TagFormat span inside old = some_format span inside old
  some_named keyword span inside old = (old, record { faults = []; are = refl; adds = adds_none old })

  some_argument : (keyword : BareWord) (at : Option Spanned) (old : Option DocFault) → ThereShown text at → (new : Option DocFault) × Tells (ArgumentFaults text keyword at) old new
  some_argument keyword None old h = (old, record { faults = []; are = refl; adds = adds_none old })
  some_argument keyword (Some span) old h =
      let i = stands_inside text span h in
      let own = some_named keyword span i.0 old in
      (own.0, record { faults = own.1.faults; are = (i.0, i.1, own.1.are); adds = own.1.adds })

  some_declarations : (before ds : List Declaration) (old : Option DocFault) → AllByRecursion (DeclarationShown text) ds → (new : Option DocFault) × Tells (DeclarationFaults text before ds) old new
  some_declarations before [] old h = (old, record { faults = []; are = refl; adds = adds_none old })
  some_declarations before (d ∷ ds) old h =
      let b = list_any (λ (other : Declaration). same (once other.keyword) (once d.keyword)) before in
      let twice = told b d.span DeclaredTwice in
      let first = after b d.span DeclaredTwice old in
      let own = some_argument d.keyword (span_of (argument (Some d))) first h.0 in
      let others = some_declarations (before ++ d ∷ []) ds own.0 h.1 in (
        others.0,
        record {
          faults = twice ++ (own.1.faults ++ others.1.faults);
          are = (twice, own.1.faults, others.1.faults, told_where (IsDeclaredTwice before d) b d.span DeclaredTwice (twice_told before d b refl), own.1.are, others.1.are, refl);
          adds = adds_both twice (own.1.faults ++ others.1.faults) old first others.0 (adds_after b d.span DeclaredTwice old)
              (adds_both own.1.faults others.1.faults first own.0 others.0 own.1.adds others.1.adds);
        },
      )

  -- ---- names

  some_names : (before : List (List ℕ)) (rules : List WrittenRule) (old : Option DocFault) → AllByRecursion (RuleShown text) rules
      → (names : List (List ℕ)) × (new : Option DocFault) × Tells (NamesFaults text before rules names) old new
  some_names before [] old h = ([], old, record { faults = []; are = refl; adds = adds_none old })
  some_names before (rule ∷ rules) old h =
      let i = stands_inside text rule.name h.0.name in
      let again = tested (decide_contains before i.0) in
      let special = tested (decide_contains specials i.0) in
      let twice = told again.0 rule.name RuleTwice in
      let reserved = told special.0 rule.name Reserved in
      let first = after again.0 rule.name RuleTwice old in
      let second = after special.0 rule.name Reserved first in
      let others = some_names (before ++ i.0 ∷ []) rules second h.1 in (
        i.0 ∷ others.0,
        others.1,
        record {
          faults = twice ++ (reserved ++ others.2.faults);
          are = (
            twice,
            reserved,
            others.2.faults,
            i.1,
            told_where (Contains before i.0) again.0 rule.name RuleTwice again.1,
            told_where (Contains specials i.0) special.0 rule.name Reserved special.1,
            others.2.are,
            refl,
          );
          adds = adds_both twice (reserved ++ others.2.faults) old first others.1 (adds_after again.0 rule.name RuleTwice old)
              (adds_both reserved others.2.faults first second others.1 (adds_after special.0 rule.name Reserved first) others.2.adds);
        },
      )

  -- ---- bodies

  some_rules : (context : Context) (rules : List WrittenRule) (old : Option DocFault) → AllByRecursion (RuleShown text) rules
      → (new : Option DocFault) × (rs : List Rule) × RulesRead text context rules old new rs
  some_rules context [] old h = (old, [], record { faults = []; are = refl; adds = adds_none old; is = λ n. tt })
  some_rules context (rule ∷ rules) old h =
      let i = stands_inside text rule.name h.0.name in
      let body = some_walked text context rule.body old h.0.body in
      let others = some_rules context rules body.0 h.1 in
      let r : Rule = record { place = rule.name.place; name = i.0; public = rule.public; body = body.1 } in
      let own = body.2.faults in
      let behind = others.2.faults in (
        others.0,
        r ∷ others.1,
        record {
          faults = own ++ behind;
          are = (own, behind, body.2.are, others.2.are, refl);
          adds = adds_both own behind old body.0 others.0 body.2.adds others.2.adds;
          is = λ n. (record { place = refl; public = refl; name = i.1; body = body.2.is (front_none own behind n) }, others.2.is (back_none own behind n));
        },
      )

  -- ---- the root rule, and the context

  some_root : (names : List (List ℕ)) (at : Option Spanned) (old : Option DocFault) → ThereShown text at
      → (new : Option DocFault) × (root : Option (List ℕ)) × IsReadAs (RootFaults text names at) (IsThere text at) old new root
  some_root names None old h = (old, None, record { faults = []; are = refl; adds = adds_none old; is = λ n. tt })
  some_root names (Some span) old h =
      let i = stands_inside text span h in
      let there = tested (decide_contains names i.0) in (
        after (not there.0) span RootMissing old,
        Some i.0,
        record {
          faults = told (not there.0) span RootMissing;
          are = (i.0, i.1, told_unless (Contains names i.0) there.0 span RootMissing there.1);
          adds = adds_after (not there.0) span RootMissing old;
          is = λ n. i.1;
        },
      )

  some_there : (at : Option Spanned) → ThereShown text at → (inside : Option (List ℕ)) × IsThere text at inside
  some_there None h = (None, tt)
  some_there (Some span) h = let i = stands_inside text span h in (Some i.0, i.1)

  some_format_of : (at : Option Spanned) → ThereShown text at → (f : Option Format) × FormatIs text at f
  some_format_of None h = (None, refl)
  some_format_of (Some span) h = let i = stands_inside text span h in (format_named i.0, (i.0, i.1, refl))

  -- ---- the document

  some_read : (document : WrittenDocument) → DocumentShown text document → (found : Option DocFault) × (doc : Doc) × AllRead text document found doc
  some_read document h =
      let ds = document.declarations in
      let rules_shown = to_each (RuleShown text) document.rules h.rules in
      let f = some_format_of (format_of ds) (argument_of_shown text word.TagFormat ds h.declarations) in
      let base = some_there (base_of ds) (argument_of_shown text word.Base ds h.declarations) in
      let context : Context = record { mode = mode_of ds; format = f.0 } in
      let has : HasContext text ds context = record { mode = refl; format = f.1 } in
      let d = some_declarations [] ds None (to_each (DeclarationShown text) ds h.declarations) in
      let n = some_names [] document.rules d.0 rules_shown in
      let r = some_rules context document.rules n.1 rules_shown in
      let root = some_root n.0 (root_of ds) r.0 (argument_of_shown text word.Root ds h.declarations) in
      let behind = r.2.faults ++ root.2.faults in
      let doc : Doc = record { mode = context.mode; root = root.1; format = context.format; base = base.0; rules = r.1 } in (
        root.0,
        doc,
        record {
          faults = d.1.faults ++ (n.2.faults ++ behind);
          are = record {
            context = context;
            names = n.0;
            declarations = d.1.faults;
            named = n.2.faults;
            bodies = r.2.faults;
            root = root.2.faults;
            has_context = has;
            of_declarations = d.1.are;
            of_names = n.2.are;
            of_bodies = r.2.are;
            of_root = root.2.are;
            whole = refl;
          };
          first = (adds_both d.1.faults (n.2.faults ++ behind) None d.0 root.0 d.1.adds
              (adds_both n.2.faults behind d.0 n.1 root.0 n.2.adds (adds_both r.2.faults root.2.faults n.1 r.0 root.0 r.2.adds root.2.adds))).first [] refl;
          means = λ e.
              let none = back_none n.2.faults behind (back_none d.1.faults (n.2.faults ++ behind) e) in
              record { context = has; root = root.2.is (back_none r.2.faults root.2.faults none); base = base.1; rules = r.2.is (front_none r.2.faults root.2.faults none) };
        },
      )

  by_found : (document : WrittenDocument) (doc : Doc) → IsWritten text document → (found : Option DocFault) → AllRead text document found doc → (answer : Result Doc DocFault) × IsReading text answer
  by_found document doc h None all = (Ok doc, reading_ok text document doc h (answered_ok refl all))
  by_found document doc h (Some fault) all = (Err fault, reading_err text document fault h (answered_err fault refl all))

  by_answer : (a : Result WrittenDocument DocFault) → IsSyntax text a → (answer : Result Doc DocFault) × IsReading text answer
  by_answer (Err fault) h = (Err fault, inl h)
  by_answer (Ok document) h = let all = some_read document (shown text document h) in by_found document all.1 h all.0 all.2

pub some_reading : (text : List ℕ) → (answer : Result Doc DocFault) × IsReading text answer
some_reading text = let a = some_answer_of text in by_answer text a.0 a.1
