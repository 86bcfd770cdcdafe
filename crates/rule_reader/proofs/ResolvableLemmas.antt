-- What is read has references and a base that can be resolved.
use Rattle.std.proofs.Common.{arith, ◌≡◌, ◌⊎◌, inl, inr, ⊎_elim, refl, sym, ap, subst, ◌∙◌, ℕ, zero, suc, ◌+◌, ◌<◌, ◌≤◌, Bool, true, false, cond, ltb, ◌==◌, List, [], ◌∷◌, ◌++◌, length, map, Option, Some, None}
use Rattle.std.specs.Prelude.{Contains, if◌then◌else◌, codes, bytes_eq}
use Rattle.std.specs.List.{AllByRecursion, flat_map}
use Rattle.std.proofs.lemmas.Bool.Decides.{nat_tests}
use Rattle.vg_base.specs.Characters.{byte_len}
use Rattle.vg_base.specs.Limits as limits
use Rattle.vg_base.proofs.Bytes.{byte_len-cons}
use Rattle.vg_base.specs.declared.doc_fault.DocFault.{DocFault}
use Rattle.vg_base.specs.declared.doc_fault.DocKind.TheVariants.{BadUri, TagFormat}
use Rattle.vg_base.specs.declared.place.Place.{Place}
use Rattle.uri_links.specs.declared.fault.UriFault.{UriFault}
use Rattle.uri_links.specs.declared.fault.UriFault.TheVariants.{NotUri, UriLong}
use Rattle.uri_links.specs.Allowed.{is_reference}
use Rattle.uri_links.specs.Faults.{reading_fault}
use Rattle.uri_links.specs.Parts.{parts}
use Rattle.uri_links.specs.Split.{before, hash}
use Rattle.uri_links.proofs.FaultLemmas.{reading_none, reading_short}
use Rattle.uri_links.proofs.ReferenceLemmas.{front_reference}
use Rattle.abnf_lexer.specs.declared.lexemes.Spanned.{Spanned}
use Rattle.abnf_parser.specs.declared.lexeme.BareWord.{BareWord}
use Rattle.abnf_parser.specs.declared.lexeme.BareWord.TheVariants as word
use Rattle.abnf_parser.specs.declared.written.Declaration.{Declaration}
use Rattle.abnf_parser.specs.declared.written.Written.{Written}
use Rattle.abnf_parser.specs.declared.written.WrittenRule.{WrittenRule}
use Rattle.grammar_tree.specs.declared.expansion.Expansion as tree
use Rattle.grammar_tree.specs.declared.expansion.Expansion.{Expansion}
use Rattle.grammar_tree.specs.declared.expansion.Expansion.TheVariants as e
use Rattle.grammar_tree.specs.declared.expansion.Expansion.TheOpen.{Expansion-F}
use Rattle.grammar_tree.specs.declared.expansion.Expansion.TheFolds.{fold-roll-Expansion}
use Rattle.grammar_tree.specs.declared.expansion.Goal.{Goal}
use Rattle.grammar_tree.specs.declared.expansion.Goal.TheVariants as goal
use Rattle.grammar_tree.specs.declared.expansion.Reference.{Reference}
use Rattle.grammar_tree.specs.declared.expansion.TagNode.{TagNode}
use Rattle.grammar_tree.specs.declared.document.Doc.{Doc}
use Rattle.grammar_tree.specs.declared.document.Rule.{Rule}
use Rattle.rule_reader.specs.declared.context.Context.{Context}
use Rattle.rule_reader.specs.Leaves.{HasInside}
use Rattle.rule_reader.specs.Context as context
use Rattle.rule_reader.specs.References.{named, GoalIs, IsGoal}
use Rattle.rule_reader.specs.LeafFaults.{Told}
use Rattle.rule_reader.specs.DocumentFaults.{NameFaults, ArgumentFaults, DeclarationFaults}
use Rattle.rule_reader.specs.Meaning
use Rattle.rule_reader.specs.Meaning.{Means, EachMeans, RulesMean, IsThere, repeated}
use Rattle.rule_reader.specs.Reading.{Reads}
use Rattle.rule_reader.specs.Imports.{IsReadable, IsReadableBase, IsResolvable, uri_of, uris_in, uris_of, uris_of_level}
use Rattle.rule_reader.proofs.Insides.{one_inside_at}
use Rattle.rule_reader.proofs.UriLemmas.{of_parts}

-- ---- a reference without its fragment

shorter : (text : List ℕ) → byte_len (before hash text) ≤ byte_len text
shorter [] = omega arith
shorter (c ∷ text) = at (c == hash) refl (shorter text)
  where
    at : (b : Bool) → (c == hash) ≡ b → byte_len (before hash text) ≤ byte_len text → byte_len (before hash (c ∷ text)) ≤ byte_len (c ∷ text)
    at true h more = subst (λ b. byte_len (cond b [] (c ∷ before hash text)) ≤ byte_len (c ∷ text)) (sym h) (omega arith)
    at false h more = subst (λ b. byte_len (cond b [] (c ∷ before hash text)) ≤ byte_len (c ∷ text)) (sym h) (omega (arith, byte_len-cons c (before hash text), byte_len-cons c text, more))

pub readable_front : (text : List ℕ) → IsReadable text → IsReadable (before hash text)
readable_front text h =
    let le : byte_len (before hash text) ≤ 2048 = omega (arith, shorter text, reading_short text h) in
    let short : ltb 2048 (byte_len (before hash text)) ≡ false = grind (arith, nat_tests) in
    ap (λ b. cond b (Some UriLong) (cond (is_reference (before hash text)) None (Some NotUri))) short
    ∙ ap (λ b. cond b None (Some NotUri)) (front_reference text (reading_none text h))

-- ---- bodies

abbrev Fine : Expansion → Type 0
Fine x = AllByRecursion IsReadable (uris_in x)

no_uris : (x : Expansion) → uris_in x ≡ [] → Fine x
no_uris x is = subst (AllByRecursion IsReadable) (sym is) tt

of_token : (words : List (List ℕ)) → uris_in (e.Token words) ≡ []
unfolding tree.roll-Expansion denote.Hole.Carrier.roll
of_token words = fold-roll-Expansion (List (List ℕ)) uris_of_level (Expansion-F.Token words)

of_tag : (node : TagNode) → uris_in (e.Tag node) ≡ []
unfolding tree.roll-Expansion denote.Hole.Carrier.roll
of_tag node = fold-roll-Expansion (List (List ℕ)) uris_of_level (Expansion-F.Tag node)

of_null : uris_in e.Null ≡ []
unfolding tree.roll-Expansion denote.Hole.Carrier.roll
of_null = fold-roll-Expansion (List (List ℕ)) uris_of_level Expansion-F.Null

of_void : uris_in e.Void ≡ []
unfolding tree.roll-Expansion denote.Hole.Carrier.roll
of_void = fold-roll-Expansion (List (List ℕ)) uris_of_level Expansion-F.Void

of_garbage : uris_in e.Garbage ≡ []
unfolding tree.roll-Expansion denote.Hole.Carrier.roll
of_garbage = fold-roll-Expansion (List (List ℕ)) uris_of_level Expansion-F.Garbage

of_reference : (r : Reference) → uris_in (e.Ref r) ≡ uri_of r.goal
unfolding tree.roll-Expansion denote.Hole.Carrier.roll
of_reference r = fold-roll-Expansion (List (List ℕ)) uris_of_level (Expansion-F.Ref r)

of_repeat : (least : ℕ) (most : Option ℕ) (inner : Expansion) → uris_in (e.Rep least most inner) ≡ uris_in inner
unfolding tree.roll-Expansion denote.Hole.Carrier.roll
of_repeat least most inner = fold-roll-Expansion (List (List ℕ)) uris_of_level (Expansion-F.Rep least most inner)

fine_named : (place : Place) (name : List ℕ) → Fine (named place name)
fine_named place name = at (bytes_eq name (codes "NULL")) (bytes_eq name (codes "VOID")) (bytes_eq name (codes "GARBAGE"))
  where
    local : Expansion
    local = e.Ref (record { place = place; goal = goal.Local name })

    at : (null void garbage : Bool) → Fine (if null then e.Null else if void then e.Void else if garbage then e.Garbage else local)
    at true void garbage = no_uris e.Null of_null
    at false true garbage = no_uris e.Void of_void
    at false false true = no_uris e.Garbage of_garbage
    at false false false = no_uris local (of_reference (record { place = place; goal = goal.Local name }))

fine_goal : (inside : List ℕ) (g : Goal) → IsGoal inside g → AllByRecursion IsReadable (uri_of g)
fine_goal inside g h = at (parts inside).fragment g h.refers
  where
    at : (fragment : Option (List ℕ)) (g : Goal) → GoalIs fragment (before hash inside) g → AllByRecursion IsReadable (uri_of g)
    at None (goal.Root to) r = (subst IsReadable (sym r) (readable_front inside h.readable), tt)
    at None (goal.Local rule) r = absurd r
    at None (goal.Named to rule) r = absurd r
    at (Some fragment) (goal.Named to rule) r = (subst IsReadable (sym r.0) (readable_front inside h.readable), tt)
    at (Some fragment) (goal.Root to) r = absurd r
    at (Some fragment) (goal.Local rule) r = absurd r

fine_repeated : (least : ℕ) (most : Option ℕ) (inner : Expansion) → Fine inner → Fine (repeated least most inner)
fine_repeated least (Some zero) inner h = no_uris e.Null of_null
fine_repeated least (Some (suc most)) inner h = subst (AllByRecursion IsReadable) (sym (of_repeat least (Some (suc most)) inner)) h
fine_repeated least None inner h = subst (AllByRecursion IsReadable) (sym (of_repeat least None inner)) h

both : (xs ys : List (List ℕ)) → AllByRecursion IsReadable xs → AllByRecursion IsReadable ys → AllByRecursion IsReadable (xs ++ ys)
both [] ys h k = k
both (x ∷ xs) ys h k = (h.0, both xs ys h.1 k)

mutual
  fine : {text : List ℕ} {context : Context} {p : Written} {x : Expansion} → Means text context p x → Fine x
  fine (Meaning.token (inside, has, (words, are, is))) = no_uris _ (ap uris_in is ∙ of_token words)
  fine (Meaning.name {span} (inside, has, is)) = subst Fine (sym is) (fine_named span.place inside)
  fine (Meaning.reference {span} (inside, has, (g, is_goal, is))) =
      subst (AllByRecursion IsReadable) (sym (ap uris_in is ∙ of_reference (record { place = span.place; goal = g }))) (fine_goal inside g is_goal)
  fine (Meaning.tag {span} (inside, has, (script, of, is))) = no_uris _ (ap uris_in is ∙ of_tag (record { place = span.place; text = inside; script = script }))
  fine (Meaning.nothing is) = no_uris _ (ap uris_in is ∙ of_null)
  fine (Meaning.sequence xs is each) = subst (AllByRecursion IsReadable) (sym (of_parts _ xs (inl is))) (fine_each each)
  fine (Meaning.alternatives xs is each) = subst (AllByRecursion IsReadable) (sym (of_parts _ xs (inr is))) (fine_each each)
  fine (Meaning.weighted m) = fine m
  fine (Meaning.optional y is m) = subst (AllByRecursion IsReadable) (sym (ap uris_in is ∙ of_repeat 0 (Some 1) y)) (fine m)
  fine (Meaning.turns y (least, most, chance, has, is) m) = subst Fine (sym is) (fine_repeated _ _ y (fine m))

  fine_each : {text : List ℕ} {context : Context} {parts : List Written} {xs : List Expansion} → EachMeans text context parts xs → AllByRecursion IsReadable (flat_map uris_in xs)
  fine_each Meaning.no_part = tt
  fine_each (Meaning.part {x = x} {xs = xs} m each) = both (uris_in x) (flat_map uris_in xs) (fine m) (fine_each each)

fine_rules : (text : List ℕ) (context : Context) (written : List WrittenRule) (rules : List Rule) → RulesMean text context written rules → AllByRecursion IsReadable (uris_of rules)
fine_rules text context [] [] m = tt
fine_rules text context [] (rule ∷ rules) m = absurd m
fine_rules text context (w ∷ written) [] m = absurd m
fine_rules text context (w ∷ written) (rule ∷ rules) m = both (uris_in rule.body) (uris_of rules) (fine m.0.body) (fine_rules text context written rules m.1)

-- ---- the base

empty_front : (xs ys : List DocFault) → [] ≡ xs ++ ys → (xs ≡ []) × (ys ≡ [])
empty_front [] ys h = (refl, sym h)
empty_front (x ∷ xs) ys h = absurd (cc)

untold : (inside : List ℕ) (span : Spanned) (faults : List DocFault) → Told (reading_fault inside ≡ None → ⊥) span BadUri faults → faults ≡ [] → IsReadable inside
untold inside span faults (inl h) none = let both : ◌≡◌ {A = List DocFault} (record { place = span.place; kind = BadUri } ∷ []) [] = sym h.1 ∙ none in absurd (cc)
untold inside span faults (inr h) none = at (reading_fault inside) refl
  where
    at : (o : Option UriFault) → reading_fault inside ≡ o → IsReadable inside
    at None is = is
    at (Some fault) is = absurd (h.0 (λ no. let both : ◌≡◌ {A = Option UriFault} (Some fault) None = sym is ∙ no in cc))

-- the keyword of a base alone is of its kind
is_base : (keyword : BareWord) → context.same (context.once word.Base) (context.once keyword) ≡ true → keyword ≡ word.Base
is_base word.Base h = refl
is_base word.Language h = absurd (cc)
is_base word.Mode h = absurd (cc)
is_base word.Root h = absurd (cc)
is_base word.TagFormat h = absurd (cc)
is_base _ h = absurd (cc)

fine_argument : (text : List ℕ) (keyword : BareWord) (span : Spanned) (inside : List ℕ) (faults : List DocFault) → keyword ≡ word.Base → ArgumentFaults text keyword (Some span) faults → faults ≡ []
    → HasInside text span inside → IsReadable inside
fine_argument text word.Base span inside faults is h none has = subst IsReadable (one_inside_at text span h.0 inside h.1 has) (untold h.0 span faults h.2 none)
fine_argument text _ span inside faults is h none has = absurd (cc)

fine_base : (text : List ℕ) (before declarations : List Declaration) (base : Option (List ℕ)) → DeclarationFaults text before declarations [] → IsThere text (context.base_of declarations) base
    → IsReadableBase base
fine_base text before [] None h there = tt
fine_base text before [] (Some base) h there = absurd there
fine_base text before (d ∷ declarations) base (twice, own, others, a, b, c, whole) there =
    at (context.same (context.once word.Base) (context.once d.keyword)) refl (λ others_there. fine_base text (before ++ d ∷ []) declarations base (subst (DeclarationFaults text (before ++ d ∷ []) declarations) rest c) others_there)
  where
    none : own ≡ []
    none = (empty_front own others (sym (empty_front twice (own ++ others) whole).1)).0

    rest : others ≡ []
    rest = (empty_front own others (sym (empty_front twice (own ++ others) whole).1)).1

    of_argument : (span : Option Spanned) (base : Option (List ℕ)) → ArgumentFaults text d.keyword span own → IsThere text span base → d.keyword ≡ word.Base → IsReadableBase base
    of_argument (Some span) (Some base) h there is = fine_argument text d.keyword span base own is h none there
    of_argument (Some span) None h there is = tt
    of_argument None None h there is = tt
    of_argument None (Some base) h there is = absurd there

    at : (is : Bool) → context.same (context.once word.Base) (context.once d.keyword) ≡ is
        → (IsThere text (context.base_of declarations) base → IsReadableBase base) → IsReadableBase base
    at true is more =
        of_argument (context.span_of (context.argument (Some d))) base b
        (subst (λ first. IsThere text (context.span_of (context.argument first)) base) (ap (λ x. if x then Some d else context.first_by word.Base declarations) is) there) (is_base d.keyword is)
    at false is more =
        more
        (subst (λ first. IsThere text (context.span_of (context.argument first)) base) (ap (λ x. if x then Some d else context.first_by word.Base declarations) is) there)

-- ---- the document

pub resolvable : (text : List ℕ) (doc : Doc) → Reads text doc → IsResolvable doc
resolvable text doc h = record {
  base = fine_base text [] h.document.declarations doc.base (subst (DeclarationFaults text [] h.document.declarations) none h.faultless.of_declarations) h.means.base;
  uris = fine_rules text (record { mode = doc.mode; format = doc.format }) h.document.rules doc.rules h.means.rules;
}
  where
    none : h.faultless.declarations ≡ []
    none = (empty_front h.faultless.declarations _ h.faultless.whole).0
