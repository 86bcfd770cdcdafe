-- What was laid is linked (`are_linked`), and without faults it is the version of the publish (`is_version`).
use Rattle.std.proofs.Common.{◌≡◌, inl, inr, ℕ, zero, suc, ◌+◌, ◌<◌, ◌≤◌, ◌^◌, List, [], ◌∷◌, ◌++◌, Option, Some, length, refl, sym, ap, subst, ◌∙◌, arith}
use Rattle.std.specs.Prelude.{slice_get}
use Rattle.std.specs.List.{AllByRecursion}
use Rattle.std.proofs.lemmas.Option.{slice_get_within}
use Rattle.std.proofs.lemmas.List.Elements.{All-from_recursion}
use Rattle.vg_base.specs.declared.numbers.DocIx.{DocIx}
use Rattle.vg_base.specs.declared.numbers.NodeIx.{NodeIx}
use Rattle.vg_base.specs.declared.numbers.RuleIx.{RuleIx}
use Rattle.vg_base.specs.declared.numbers.VersionNo.{VersionNo}
use Rattle.grammar_tree.specs.declared.doc_set.DocText.{DocText}
use Rattle.grammar_tree.specs.declared.document.ReadDoc.{ReadDoc}
use Rattle.grammar_tree.specs.declared.linked.Node.{Node}
use Rattle.grammar_tree.specs.declared.linked.LinkedRule.{LinkedRule}
use Rattle.grammar_tree.specs.Links.{Rules, IsLinked}
use Rattle.grammar_tree.specs.Alone.{SelfDerive, NoSelfDerivation, LeadsThrough}
use Rattle.grammar_tree.specs.Size.{size_of}
use Rattle.grammar_tree.proofs.Numbering.{reading_order_is_linked}
use Rattle.linker.specs.declared.set_fault.SetFault.{SetFault}
use Rattle.linker.specs.declared.version.VersionDoc.{VersionDoc}
use Rattle.linker.specs.Readings.{Readings, HaveReadings}
use Rattle.linker.specs.Numbers.{Definition, definitions, starts, bodies, linked_rules, numbers}
use Rattle.linker.specs.SetFaults.{over, LateFaults}
use Rattle.linker.specs.Versions.{built, version_docs, IsRootBelow, IsVersion}
use Rattle.linker.specs.code.Publications.{AreNumbers}
use Rattle.linker.proofs.LinkedLemmas.{IsDefined, definitions_stand}
use Rattle.linker.proofs.OrderLemmas.{length_starts, length_bodies, in_reading_order}
use Rattle.linker.proofs.RefersLemmas.{length_rules, total_rules, refers_below, roots_below}
use Rattle.linker.proofs.ScriptLemmas.{have_scripts}

-- nodes and rules of a set are linked
pub are_linked : (set : List DocText) (docs : Readings) (nodes : List Node) (rules : List LinkedRule) → AreNumbers set docs nodes rules → length nodes ≤ 2 ^ 32 → IsLinked (record { nodes = nodes; rules = rules })
are_linked set docs nodes rules are few =
    let few_nodes : length (numbers set docs).nodes ≤ 2 ^ 32 = subst (λ (ns : List Node). length ns ≤ 2 ^ 32) are.nodes_are few in
    let linked : IsLinked (numbers set docs) = reading_order_is_linked (numbers set docs) few_nodes (refers_below set docs are.sized) (in_reading_order set docs) in
    subst IsLinked (λ i. record { nodes = sym are.nodes_are i; rules = sym are.rules_are i }) linked

-- ---- without late faults no rule derives itself

empty_parts : (xs ys : List SetFault) → [] ≡ xs ++ ys → (xs ≡ []) × (ys ≡ [])
empty_parts [] ys h = (refl, sym h)
empty_parts (x ∷ xs) ys h = absurd (cc)

-- what leads on is a rule
lead_within : (L : Rules) (r q : RuleIx) (through : List RuleIx) → LeadsThrough L r through q → r.0 < length L.rules
lead_within L r q [] h = slice_get_within L.rules r.0 h.0 h.1
lead_within L r q (m ∷ ms) h = slice_get_within L.rules r.0 h.0.0 h.0.1

-- of so many rules from rule r on none derives itself
abbrev NoneDerives : Rules → ℕ → ℕ → Type 0
NoneDerives L r count = (k : ℕ) → k < count → SelfDerive L (record { 0 = r + k }) → ⊥

none_derives : (L : Rules) (r before : ℕ) (ds : List Definition) → LateFaults L r before ds [] → NoneDerives L r (length ds)
none_derives L r before [] late k lt derives = absurd (omega arith)
none_derives L r before (d ∷ ds) (own, others, inl told, late, whole) k lt derives =
    let none : own ≡ [] = (empty_parts own (over before d ++ others) whole).0 in
    let both = sym told.1 ∙ none in
    absurd (cc)
none_derives L r before (d ∷ ds) (own, others, inr told, late, whole) zero lt derives =
    let e : r + 0 ≡ r = omega arith in
    told.0 (subst (λ (n : ℕ). SelfDerive L (record { 0 = n })) e derives)
none_derives L r before (d ∷ ds) (own, others, inr told, late, whole) (suc k) lt derives =
    let more : [] ≡ over before d ++ others = sym (empty_parts own (over before d ++ others) whole).1 in
    let none : others ≡ [] = (empty_parts (over before d) others more).1 in
    let e : r + suc k ≡ r + 1 + k = omega arith in
    none_derives L (r + 1) (before + size_of d.rule.body) ds (subst (LateFaults L (r + 1) (before + size_of d.rule.body) ds) none late) k (omega arith)
    (subst (λ (n : ℕ). SelfDerive L (record { 0 = n })) e derives)

none_alone : (L : Rules) (ds : List Definition) → LateFaults L 0 0 ds [] → length L.rules ≡ length ds → NoSelfDerivation L
none_alone L ds late long r derives =
    let lt : r.0 < length L.rules = lead_within L r r derives.0 derives.1 in
    let e : r.0 ≡ 0 + r.0 = omega arith in
    none_derives L 0 0 ds late r.0 (omega arith) (subst (λ (n : ℕ). SelfDerive L (record { 0 = n })) e derives)

-- ---- the version

rule_docs : (set : List DocText) (docs : Readings) (ds : List Definition) (ns : List NodeIx) → AllByRecursion (IsDefined set docs) ds
    → AllByRecursion (λ (rule : LinkedRule). rule.doc.0 < length (version_docs docs 0 set docs)) (linked_rules ds ns)
rule_docs set docs [] ns h = tt
rule_docs set docs (d ∷ ds) [] h = tt
rule_docs set docs (d ∷ ds) (n ∷ ns) h = (slice_get_within (version_docs docs 0 set docs) d.doc.0 _ h.0.is_doc, rule_docs set docs ds ns h.1)

pub rules_count : (set : List DocText) (docs : Readings) → length (numbers set docs).rules ≡ length (definitions set docs)
rules_count set docs =
    let ds : List Definition = definitions set docs in
    length_rules ds (starts 0 (bodies set docs ds)) (length_starts 0 (bodies set docs ds) ∙ length_bodies set docs ds)

-- without late faults it is a version
pub is_version : (set : List DocText) (entries : List DocIx) (docs : Readings) (v : VersionNo) → HaveReadings set entries docs → LateFaults (numbers set docs) 0 0 (definitions set docs) [] → IsVersion (built set docs v)
is_version set entries docs v have late = record {
  alone = none_alone (numbers set docs) (definitions set docs) late (rules_count set docs);
  docs = All-from_recursion (λ (rule : LinkedRule). rule.doc.0 < length (version_docs docs 0 set docs)) (numbers set docs).rules
      (rule_docs set docs (definitions set docs) (starts 0 (bodies set docs (definitions set docs))) (definitions_stand set docs));
  roots = All-from_recursion (λ (doc : VersionDoc). IsRootBelow (length (numbers set docs).rules) doc.root) (version_docs docs 0 set docs)
      (roots_below docs (length (numbers set docs).rules) (total_rules set docs have.sized) 0 set docs among);
  scripts = have_scripts set entries docs have v;
}
  where
    among : (k : ℕ) (reading : Option ReadDoc) → slice_get docs k ≡ Some reading → slice_get docs (0 + k) ≡ Some reading
    among k reading is = let e : 0 + k ≡ k = omega arith in ap (slice_get docs) e ∙ is
