-- What is written so means one thing.
use Rattle.std.proofs.Common.{◌≡◌, ◌⊎◌, inl, inr, ℕ, List, [], ◌∷◌, Option, Some, None, Result, Ok, Err, refl, sym, ap, subst, ◌∙◌}
use Rattle.std.specs.Str.{chars}
use Rattle.std.proofs.lemmas.Str.{chars-encodes}
use Rattle.vg_base.specs.declared.mode.Mode.{Mode}
use Rattle.vg_base.specs.declared.mode.Mode.TheVariants.{Voice, Dtmf}
use Rattle.vg_base.specs.declared.format.Format.{Format}
use Rattle.vg_base.specs.declared.format.Format.TheVariants as format
use Rattle.vg_base.specs.declared.script.Script.{Script}
use Rattle.abnf_lexer.specs.declared.lexemes.Spanned.{Spanned}
use Rattle.abnf_lexer.specs.Repeats.{Most}
use Rattle.token_forms.proofs.WordLemmas as words
use Rattle.token_forms.proofs.KeyLemmas as keys
use Rattle.script_reader.proofs.OneAnswer.{one_script_of}
use Rattle.uri_links.specs.Parts.{parts}
use Rattle.uri_links.specs.Split.{before, hash}
use Rattle.grammar_tree.specs.declared.expansion.Expansion.{Expansion}
use Rattle.grammar_tree.specs.declared.expansion.Expansion.TheVariants as e
use Rattle.grammar_tree.specs.declared.expansion.Goal.{Goal}
use Rattle.grammar_tree.specs.declared.expansion.Goal.TheVariants as goal
use Rattle.grammar_tree.specs.declared.document.Doc.{Doc}
use Rattle.grammar_tree.specs.declared.document.Rule.{Rule}
use Rattle.abnf_parser.specs.declared.written.Written.TheVariants as tree
use Rattle.abnf_parser.specs.declared.written.Written.{Written, out-Written}
use Rattle.abnf_parser.specs.declared.written.Written.TheOpen.{Written-F}
use Rattle.abnf_parser.specs.declared.written.WrittenRule.{WrittenRule}
use Rattle.abnf_parser.specs.declared.written.WrittenDocument.{WrittenDocument}
use Rattle.rule_reader.specs.declared.context.Context.{Context}
use Rattle.rule_reader.specs.Leaves.{HasInside}
use Rattle.rule_reader.specs.Context.{root_of, base_of}
use Rattle.rule_reader.specs.Numbers.{number_of, most_of}
use Rattle.rule_reader.specs.References.{named, unescaped, IsFragment, GoalIs, IsGoal}
use Rattle.rule_reader.specs.LeafFaults.{HasRepeat}
use Rattle.rule_reader.specs.Meaning as meaning
use Rattle.rule_reader.specs.Meaning.{AreWordsIn, IsToken, IsReference, IsScriptOf, IsTag, Inside, IsRepeated, repeated, Means, EachMeans, RuleMeans, RulesMean, IsThere, DocumentMeans}
use Rattle.rule_reader.proofs.Insides.{one_inside_at}
use Rattle.rule_reader.proofs.OneReading.{SameRepeat, repeat_once, context_once, one_document}
use Rattle.rule_reader.specs.Reading.{Reads}

-- ---- at leaves

words_once : (mode : Mode) (ws vs : List (List ℕ)) (inside : List ℕ) → AreWordsIn mode ws inside → AreWordsIn mode vs inside → ws ≡ vs
words_once Voice ws vs inside h k = words.one_list ws vs inside h k
words_once Dtmf ws vs inside h k = keys.one_list inside ws vs h k

fragment_once : (fragment a b : List ℕ) → IsFragment fragment a → IsFragment fragment b → a ≡ b
fragment_once fragment a b h k = sym (chars-encodes a h.0) ∙ (ap chars (h.1 ∙ sym k.1) ∙ chars-encodes b k.0)

goal_once : (fragment : Option (List ℕ)) (uri : List ℕ) (g h : Goal) → GoalIs fragment uri g → GoalIs fragment uri h → g ≡ h
goal_once None uri (goal.Root a) (goal.Root b) p q = ap (λ (u : List ℕ). goal.Root u) (p ∙ sym q)
goal_once None uri (goal.Root a) (goal.Named b r) p q = absurd q
goal_once None uri (goal.Root a) (goal.Local r) p q = absurd q
goal_once None uri (goal.Named a r) h p q = absurd p
goal_once None uri (goal.Local r) h p q = absurd p
goal_once (Some f) uri (goal.Named a r) (goal.Named b s) p q = λ i. goal.Named ((p.0 ∙ sym q.0) i) (fragment_once f r s p.1 q.1 i)
goal_once (Some f) uri (goal.Named a r) (goal.Root b) p q = absurd q
goal_once (Some f) uri (goal.Named a r) (goal.Local s) p q = absurd q
goal_once (Some f) uri (goal.Root a) h p q = absurd p
goal_once (Some f) uri (goal.Local r) h p q = absurd p

script_once : (f : Option Format) (inside : List ℕ) (a b : Option Script) → IsScriptOf f inside a → IsScriptOf f inside b → a ≡ b
script_once None inside a b h k = h ∙ sym k
script_once (Some format.Literal) inside a b h k = h ∙ sym k
script_once (Some format.Script) inside None b h k = absurd h
script_once (Some format.Script) inside (Some a) None h k = absurd k
script_once (Some format.Script) inside (Some a) (Some b) h k = ap Some (one_script_of inside a b h k)

module _ (text : List ℕ) (context : Context) where
  inside_same : (span : Spanned) (P Q : List ℕ → Type 0) → Inside text span P → Inside text span Q → (inside : List ℕ) × P inside × Q inside
  inside_same span P Q h k = (h.0, h.2, subst Q (one_inside_at text span k.0 h.0 k.1 h.1) k.2)

  -- ---- what is meant where the kind is known

  abbrev at : Written-F Written → Expansion → Type 0
  at (Written-F.Token span) x = Inside text span (λ inside. IsToken context inside x)
  at (Written-F.Name span) x = Inside text span (λ inside. x ≡ named span.place inside)
  at (Written-F.UriRef span) x = Inside text span (λ inside. IsReference span inside x)
  at (Written-F.Tag span) x = Inside text span (λ inside. IsTag context span inside x)
  at Written-F.Nothing x = x ≡ e.Null
  at (Written-F.Sequence ps) x = (xs : List Expansion) × (x ≡ e.Seq xs) × EachMeans text context ps xs
  at (Written-F.Alternatives ps) x = (xs : List Expansion) × (x ≡ e.Alt xs) × EachMeans text context ps xs
  at (Written-F.Weighted span inner) x = Means text context inner x
  at (Written-F.Optional inner) x = (y : Expansion) × (x ≡ e.Rep 0 (Some 1) y) × Means text context inner y
  at (Written-F.Repeated span inner) x = (y : Expansion) × IsRepeated text span y x × Means text context inner y

  view : (y : Written) (x : Expansion) → Means text context y x → at (out-Written y) x
  view y x (meaning.token {span = span} h) = subst (λ z. at z x) (sym (tree.outs-Token span)) h
  view y x (meaning.name {span = span} h) = subst (λ z. at z x) (sym (tree.outs-Name span)) h
  view y x (meaning.reference {span = span} h) = subst (λ z. at z x) (sym (tree.outs-UriRef span)) h
  view y x (meaning.tag {span = span} h) = subst (λ z. at z x) (sym (tree.outs-Tag span)) h
  view y x (meaning.nothing h) = subst (λ z. at z x) (sym tree.outs-Nothing) h
  view y x (meaning.sequence {parts = ps} xs f hs) = subst (λ z. at z x) (sym (tree.outs-Sequence ps)) (xs, f, hs)
  view y x (meaning.alternatives {parts = ps} xs f hs) = subst (λ z. at z x) (sym (tree.outs-Alternatives ps)) (xs, f, hs)
  view y x (meaning.weighted {span = span} {inner = inner} h) = subst (λ z. at z x) (sym (tree.outs-Weighted span inner)) h
  view y x (meaning.optional {inner = inner} v f h) = subst (λ z. at z x) (sym (tree.outs-Optional inner)) (v, f, h)
  view y x (meaning.turns {span = span} {inner = inner} v r h) = subst (λ z. at z x) (sym (tree.outs-Repeated span inner)) (v, r, h)

  -- ---- one meaning

  token_same : (span : Spanned) (x z : Expansion) → Inside text span (λ inside. IsToken context inside x) → Inside text span (λ inside. IsToken context inside z) → x ≡ z
  token_same span x z h k =
      let s = inside_same span (λ i. IsToken context i x) (λ i. IsToken context i z) h k in
      s.1.2 ∙ (ap (λ (ws : List (List ℕ)). e.Token ws) (words_once context.mode s.1.0 s.2.0 s.0 s.1.1 s.2.1) ∙ sym s.2.2)

  name_same : (span : Spanned) (x z : Expansion) → Inside text span (λ inside. x ≡ named span.place inside) → Inside text span (λ inside. z ≡ named span.place inside) → x ≡ z
  name_same span x z h k = let s = inside_same span (λ i. x ≡ named span.place i) (λ i. z ≡ named span.place i) h k in s.1 ∙ sym s.2

  reference_same : (span : Spanned) (x z : Expansion) → Inside text span (λ inside. IsReference span inside x) → Inside text span (λ inside. IsReference span inside z) → x ≡ z
  reference_same span x z h k =
      let s = inside_same span (λ i. IsReference span i x) (λ i. IsReference span i z) h k in
      s.1.2 ∙ (ap (λ (g : Goal). e.Ref (record { place = span.place; goal = g })) (goal_once (parts s.0).fragment (before hash s.0) s.1.0 s.2.0 s.1.1.refers s.2.1.refers) ∙ sym s.2.2)

  tag_same : (span : Spanned) (x z : Expansion) → Inside text span (λ inside. IsTag context span inside x) → Inside text span (λ inside. IsTag context span inside z) → x ≡ z
  tag_same span x z h k =
      let s = inside_same span (λ i. IsTag context span i x) (λ i. IsTag context span i z) h k in
      s.1.2 ∙ (ap (λ (t : Option Script). e.Tag (record { place = span.place; text = s.0; script = t })) (script_once context.format s.0 s.1.0 s.2.0 s.1.1 s.2.1) ∙ sym s.2.2)

  repeated_same : (span : Spanned) (u v x z : Expansion) → u ≡ v → IsRepeated text span u x → IsRepeated text span v z → x ≡ z
  repeated_same span u v x z same h k =
      let one = repeat_once text span h.0 k.0 h.1 k.1 h.2 k.2 h.3 k.3 in
      h.4 ∙ ((λ i. repeated (number_of (one.least i)) (most_of (one.least i) (one.most i)) (same i)) ∙ sym k.4)

  mutual
    means_once : (y : Written) (x z : Expansion) → Means text context y x → Means text context y z → x ≡ z
    means_once y x z (meaning.token {span = span} h) k = token_same span x z h (subst (λ v. at v z) (tree.outs-Token span) (view _ z k))
    means_once y x z (meaning.name {span = span} h) k = name_same span x z h (subst (λ v. at v z) (tree.outs-Name span) (view _ z k))
    means_once y x z (meaning.reference {span = span} h) k = reference_same span x z h (subst (λ v. at v z) (tree.outs-UriRef span) (view _ z k))
    means_once y x z (meaning.tag {span = span} h) k = tag_same span x z h (subst (λ v. at v z) (tree.outs-Tag span) (view _ z k))
    means_once y x z (meaning.nothing h) k = let n : z ≡ e.Null = subst (λ v. at v z) tree.outs-Nothing (view _ z k) in h ∙ sym n
    means_once y x z (meaning.sequence {parts = ps} xs f hs) k =
        let n : (zs : List Expansion) × (z ≡ e.Seq zs) × EachMeans text context ps zs = subst (λ v. at v z) (tree.outs-Sequence ps) (view _ z k) in
        f ∙ (ap (λ (ws : List Expansion). e.Seq ws) (each_means_once ps xs n.0 hs n.2) ∙ sym n.1)
    means_once y x z (meaning.alternatives {parts = ps} xs f hs) k =
        let n : (zs : List Expansion) × (z ≡ e.Alt zs) × EachMeans text context ps zs = subst (λ v. at v z) (tree.outs-Alternatives ps) (view _ z k) in
        f ∙ (ap (λ (ws : List Expansion). e.Alt ws) (each_means_once ps xs n.0 hs n.2) ∙ sym n.1)
    means_once y x z (meaning.weighted {span = span} {inner = inner} h) k = means_once inner x z h (subst (λ v. at v z) (tree.outs-Weighted span inner) (view _ z k))
    means_once y x z (meaning.optional {inner = inner} u f h) k =
        let n : (v : Expansion) × (z ≡ e.Rep 0 (Some 1) v) × Means text context inner v = subst (λ v. at v z) (tree.outs-Optional inner) (view _ z k) in
        f ∙ (ap (λ (w : Expansion). e.Rep 0 (Some 1) w) (means_once inner u n.0 h n.2) ∙ sym n.1)
    means_once y x z (meaning.turns {span = span} {inner = inner} u r h) k =
        let n : (v : Expansion) × IsRepeated text span v z × Means text context inner v = subst (λ v. at v z) (tree.outs-Repeated span inner) (view _ z k) in
        repeated_same span u n.0 x z (means_once inner u n.0 h n.2) r n.1

    each_means_once : (ps : List Written) (xs zs : List Expansion) → EachMeans text context ps xs → EachMeans text context ps zs → xs ≡ zs
    each_means_once ps xs zs meaning.no_part meaning.no_part = refl
    each_means_once ps xs zs (meaning.part {p = p} {parts = qs} {x = x} {xs = ys} h hs) (meaning.part {x = z} {xs = ws} k ks) = λ i. means_once p x z h k i ∷ each_means_once qs ys ws hs ks i

  rules_once : (ws : List WrittenRule) (rs ss : List Rule) → RulesMean text context ws rs → RulesMean text context ws ss → rs ≡ ss
  rules_once [] [] [] h k = refl
  rules_once [] [] (s ∷ ss) h k = absurd k
  rules_once [] (r ∷ rs) ss h k = absurd h
  rules_once (w ∷ ws) [] ss h k = absurd h
  rules_once (w ∷ ws) (r ∷ rs) [] h k = absurd k
  rules_once (w ∷ ws) (r ∷ rs) (s ∷ ss) h k =
      let a = h.0 in
      let b = k.0 in
      let one : r ≡ s = λ i. record {
        place = (a.place ∙ sym b.place) i;
        public = (a.public ∙ sym b.public) i;
        name = one_inside_at text w.name r.name s.name a.name b.name i;
        body = means_once w.body r.body s.body a.body b.body i;
      } in
      λ i. one i ∷ rules_once ws rs ss h.1 k.1 i

-- ---- documents

there_once : (text : List ℕ) (span : Option Spanned) (a b : Option (List ℕ)) → IsThere text span a → IsThere text span b → a ≡ b
there_once text None None None h k = refl
there_once text None None (Some b) h k = absurd k
there_once text None (Some a) b h k = absurd h
there_once text (Some span) None b h k = absurd h
there_once text (Some span) (Some a) None h k = absurd k
there_once text (Some span) (Some a) (Some b) h k = ap Some (one_inside_at text span a b h k)

abbrev context_of : Doc → Context
context_of doc = record { mode = doc.mode; format = doc.format }

pub document_once : (text : List ℕ) (document : WrittenDocument) (a b : Doc) → DocumentMeans text document a → DocumentMeans text document b → a ≡ b
document_once text document a b h k =
    let contexts : context_of a ≡ context_of b = context_once text document.declarations (context_of a) (context_of b) h.context k.context in
    let roots = there_once text (root_of document.declarations) a.root b.root h.root k.root in
    let bases = there_once text (base_of document.declarations) a.base b.base h.base k.base in
    let rules = rules_once text (context_of a) document.rules a.rules b.rules h.rules (subst (λ (c : Context). RulesMean text c document.rules b.rules) (sym contexts) k.rules) in
    λ i. record { mode = (contexts i).mode; root = roots i; format = (contexts i).format; base = bases i; rules = rules i }

pub one_doc : (text : List ℕ) (a b : Doc) → Reads text a → Reads text b → a ≡ b
one_doc text a b h k =
    let same = one_document text k.document h.document k.is_written h.is_written in
    document_once text h.document a b h.means (subst (λ (d : WrittenDocument). DocumentMeans text d b) same k.means)
