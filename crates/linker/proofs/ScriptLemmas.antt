-- A tag that stands in a rule of a script document has its script: reading gives it one, and what stands below
-- a rule's body is laid from the rule's body (`below_within`).
use Rattle.std.proofs.Common.{◌≡◌, ◌⊎◌, inl, inr, ℕ, zero, suc, ◌+◌, ◌<◌, ◌≤◌, List, [], ◌∷◌, Some, length, refl, sym, ap, subst, ◌∙◌, arith}
use Rattle.std.specs.Prelude.{slice_get, Contains}
use Rattle.std.specs.List.{AllByRecursion}
use Rattle.std.proofs.lemmas.Bool.{cases_order}
use Rattle.vg_base.specs.declared.format.Format.TheVariants as format
use Rattle.vg_base.specs.declared.numbers.DocIx.{DocIx}
use Rattle.vg_base.specs.declared.numbers.NodeIx.{NodeIx}
use Rattle.vg_base.specs.declared.numbers.RuleIx.{RuleIx}
use Rattle.vg_base.specs.declared.numbers.VersionNo.{VersionNo}
use Rattle.grammar_tree.specs.declared.doc_set.DocText.{DocText}
use Rattle.grammar_tree.specs.declared.document.Doc.{Doc}
use Rattle.grammar_tree.specs.declared.document.ReadDoc.TheVariants as read
use Rattle.grammar_tree.specs.declared.expansion.Expansion.TheVariants as e
use Rattle.grammar_tree.specs.declared.expansion.Goal.{Goal}
use Rattle.grammar_tree.specs.declared.linked.Node.{Node}
use Rattle.grammar_tree.specs.declared.linked.Node.TheVariants as node
use Rattle.grammar_tree.specs.declared.linked.LinkedRule.{LinkedRule}
use Rattle.grammar_tree.specs.Links.{Rules, parts}
use Rattle.grammar_tree.specs.ReadingOrder.{IsSubtree, subtree, AreSubtrees, no_subtree, next_subtree}
use Rattle.grammar_tree.proofs.Numbering.{subtree_grows, row_grows}
use Rattle.rule_reader.specs.Reading.{Reads}
use Rattle.linker.specs.declared.version.VersionDoc.{VersionDoc}
use Rattle.linker.specs.Readings.{Readings, IsReadAs, HasReading, HaveReadings}
use Rattle.linker.specs.Numbers.{Definition, definitions, Laid, starts, one_by_one, laid, meant_in, bodies, linked_rules}
use Rattle.linker.specs.Versions.{built, version_docs, IsBelow, itself, below_part, HaveScripts}
use Rattle.linker.proofs.LinkedEach.{each_at}
use Rattle.linker.proofs.LinkedLemmas.{doc_of, IsDefined, definitions_stand}
use Rattle.linker.proofs.OrderLemmas.{Stands, stands_front, stands_back, stands_added, tree as tree_of}
use Rattle.linker.proofs.ScriptReading.{HasScript, Scripted, scripted_rule}

-- ---- what is below a node is laid with it

record IsPart (nodes : List Node) (start end : ℕ) (p : NodeIx) : Type 0 where
  from : start ≤ p.0
  to : ℕ
  whole : IsSubtree nodes p to
  within : to ≤ end

module _ (nodes : List Node) where
  part_tree : (ps : List NodeIx) (start end : ℕ) (p : NodeIx) → AreSubtrees nodes ps start end → Contains ps p → IsPart nodes start end p
  part_tree _ start end p (no_subtree e) (k, lt, is) = absurd (omega arith)
  part_tree _ start end p (next_subtree {p = q} {ps = ps} middle e one more) (zero, lt, is) =
      subst (IsPart nodes start end) is (record { from = omega (arith, e); to = middle; whole = one; within = row_grows nodes ps middle end more })
  part_tree _ start end p (next_subtree {p = q} {ps = ps} middle e one more) (suc k, lt, is) =
      let rest : IsPart nodes middle end p = part_tree ps middle end p more (k, omega arith, is) in
      record { from = omega (arith, e, subtree_grows nodes q middle one, rest.from); to = rest.to; whole = rest.whole; within = rest.within }

module _ (L : Rules) where
  below_within : {above n : NodeIx} (end : ℕ) → IsBelow L above n → IsSubtree L.nodes above end → (above.0 ≤ n.0) × (n.0 < end)
  below_within {above = above} end itself s = (omega arith, subtree_grows L.nodes above end s)
  below_within {above = above} end (below_part x p is at below) (subtree y is' row) =
      let both : Some x ≡ Some y = sym is ∙ is' in
      let same : x ≡ y = cc in
      let part : IsPart L.nodes (above.0 + 1) end p = part_tree L.nodes (parts y) (above.0 + 1) end p row (subst (λ (z : Node). Contains (parts z) p) same at) in
      let inner = below_within part.to below part.whole in
      (omega (arith, part.from, inner.0), omega (arith, part.within, inner.1))

-- it holds of each node between two places
abbrev EachBetween : (Node → Type 0) → List Node → ℕ → ℕ → Type 0
EachBetween P nodes start end = (k : ℕ) (x : Node) → start ≤ k → k < end → slice_get nodes k ≡ Some x → P x

each_between : (P : Node → Type 0) (nodes xs : List Node) (n : ℕ) → Stands nodes n xs → AllByRecursion P xs → EachBetween P nodes n (n + length xs)
each_between P nodes [] n s h k x le lt is = absurd (omega arith)
each_between P nodes (y ∷ xs) n s h k x le lt is = at (cases_order n k) (λ le' lt'. each_between P nodes xs (n + 1) s.1 h.1 k x le' lt' is)
  where
    at : (n ≡ k) ⊎ ((n < k) ⊎ (k < n)) → (n + 1 ≤ k → k < n + 1 + length xs → P x) → P x
    at (inl same) more =
        let both : Some y ≡ Some x = sym s.0 ∙ ap (slice_get nodes) same ∙ is in
        let here : y ≡ x = cc in
        subst P here h.0
    at (inr (inl less)) more = more (omega arith) (omega arith)
    at (inr (inr beyond)) more = absurd (omega arith)

-- ---- the bodies of linked rules

record HasBody (set : List DocText) (docs : Readings) (nodes : List Node) (ds : List Definition) (r : ℕ) (rule : LinkedRule) : Type 0 where
  d : Definition
  is_definition : slice_get ds r ≡ Some d
  is_doc : rule.doc ≡ d.doc
  stands : Stands nodes rule.body.0 (laid (meant_in set docs d) d.rule.body rule.body.0)

module _ (set : List DocText) (docs : Readings) (nodes : List Node) where
  bodies_stand : (ds : List Definition) (n r : ℕ) (rule : LinkedRule) → Stands nodes n (one_by_one n (bodies set docs ds)) → slice_get (linked_rules ds (starts n (bodies set docs ds))) r ≡ Some rule
      → HasBody set docs nodes ds r rule
  bodies_stand [] n r rule s is = absurd (cc)
  bodies_stand (d ∷ ds) n zero rule s is =
      let one : Laid = laid (meant_in set docs d) d.rule.body in
      let first : LinkedRule = record { doc = d.doc; name = d.rule.name; public = d.rule.public; body = record { 0 = n } } in
      let both : Some first ≡ Some rule = is in
      let same : first ≡ rule = cc in
      subst (HasBody set docs nodes (d ∷ ds) 0) same
      (record { d = d; is_definition = refl; is_doc = refl; stands = stands_front nodes n (one n) (one_by_one (n + length (one n)) (bodies set docs ds)) s })
  bodies_stand (d ∷ ds) n (suc r) rule s is =
      let one : Laid = laid (meant_in set docs d) d.rule.body in
      let rest : HasBody set docs nodes ds r rule =
      bodies_stand ds (n + length (one n)) r rule (stands_back nodes n (one n) (one_by_one (n + length (one n)) (bodies set docs ds)) s) is in
      record { d = rest.d; is_definition = rest.is_definition; is_doc = rest.is_doc; stands = rest.stands }

-- ---- of a version

module _ (set : List DocText) (entries : List DocIx) (docs : Readings) (have : HaveReadings set entries docs) where
  -- a document that was read is what its text reads as
  pub read_as : (x : ℕ) (own : Doc) → slice_get docs x ≡ Some (Some (read.Good own)) → (text : List ℕ) × Reads text own
  read_as x own is =
      let one : HasReading set docs x = have.each x (have.others x (read.Good own) is) in
      let both : Some (Some one.reading) ≡ Some (Some (read.Good own)) = sym one.is_there ∙ is in
      let same : one.reading ≡ read.Good own = cc in
      (one.doc.text, subst (IsReadAs one.doc.text) same one.reads)

  pub have_scripts : (v : VersionNo) → HaveScripts (built set docs v)
  have_scripts v r rule doc n tag is_rule is_doc is_script below is_tag =
      let ds : List Definition = definitions set docs in
      let nodes : List Node = one_by_one 0 (bodies set docs ds) in
      let b : HasBody set docs nodes ds r rule = bodies_stand set docs nodes ds 0 r rule (stands_added [] nodes) is_rule in
      let stands : IsDefined set docs b.d = each_at (IsDefined set docs) ds r b.d (definitions_stand set docs) b.is_definition in
      let both : Some doc ≡ Some (doc_of docs b.d) = sym is_doc ∙ ap (λ (n : DocIx). slice_get (version_docs docs 0 set docs) n.0) b.is_doc ∙ stands.is_doc in
      let mine : doc ≡ doc_of docs b.d = cc in
      let script : b.d.own.format ≡ Some format.Script = ap (λ (d : VersionDoc). d.format) (sym mine) ∙ is_script in
      let reads = read_as b.d.x b.d.own stands.is_read in
      let has : Scripted b.d.rule.body =
      scripted_rule reads.0 (record { mode = b.d.own.mode; format = b.d.own.format }) script reads.1.document.rules b.d.own.rules reads.1.means.rules stands.rule b.d.rule stands.is_rule in
      let means : Goal → RuleIx = meant_in set docs b.d in
      let one : List Node = laid means b.d.rule.body rule.body.0 in
      let whole : IsSubtree nodes rule.body (rule.body.0 + length one) = (tree_of means b.d.rule.body).by nodes rule.body.0 b.stands in
      let within = below_within (record { nodes = nodes; rules = linked_rules ds (starts 0 (bodies set docs ds)) }) (rule.body.0 + length one) below whole in
      each_between HasScript nodes one rule.body.0 b.stands ((has.by means).by rule.body.0) n.0 (node.Tag tag) within.0 within.1 is_tag
