-- What is added to all that was laid (`Grows`), in two steps.
use Rattle.std.proofs.Common.{ℕ, ◌+◌, ◌≡◌, List, [], ◌∷◌, ◌++◌, length, map, sym, ap, subst, ◌∙◌, arith}
use Rattle.std.proofs.lemmas.List.{append-nil, map-append}
use Rattle.grammar_tree.specs.declared.doc_set.DocText.{DocText}
use Rattle.grammar_tree.specs.declared.linked.LinkedRule.{LinkedRule}
use Rattle.linker.specs.declared.documents.Whole.{Whole}
use Rattle.linker.specs.Readings.{Readings}
use Rattle.linker.specs.Numbers.{Definition, Laid, laid, linked_rules, meant_in, one_by_one, starts}
use Rattle.linker.specs.code.Tellings.{Keeps}
use Rattle.linker.specs.code.Wholes.{defined_of, Added, Grows}
use Rattle.linker.proofs.LayingLists.{added_both, tells_both, behind, behind_first, next_behind, nodes_both}

-- ---- two additions

-- the one and then the other
abbrev pub both : Added → Added → Added
both a b = record { definitions = a.definitions ++ b.definitions; docs = a.docs ++ b.docs; faults = a.faults ++ b.faults }

-- what is added is the same
pub same_added : {a b : Added} → a.definitions ≡ b.definitions → a.docs ≡ b.docs → a.faults ≡ b.faults → a ≡ b
same_added d v f = λ i. record { definitions = d i; docs = v i; faults = f i }

-- the linked rules of two lists of definitions are those of the one and then those of the other
linked_join : (f : Definition → Laid) (n : ℕ) (ds es : List Definition) →
    linked_rules (ds ++ es) (starts n (map f (ds ++ es))) ≡ linked_rules ds (starts n (map f ds)) ++ linked_rules es (starts (behind n (map f ds)) (map f es))
linked_join f n [] es = let e : n ≡ n + 0 = omega arith in ap (λ k. linked_rules es (starts k (map f es))) e
linked_join f n (d ∷ ds) es =
    let rule : LinkedRule = record { doc = d.doc; name = d.rule.name; public = d.rule.public; body = record { 0 = n } } in
    let next : ℕ = n + length (f d n) in
    ap (λ rules. rule ∷ rules) (linked_join f next ds es ∙ ap (λ k. linked_rules ds (starts next (map f ds)) ++ linked_rules es (starts k (map f es))) (behind_first n (f d) (map f ds)))

module _ (set : List DocText) (readings : Readings) where
  -- nothing is added
  pub grows_none : (old : Whole) → Grows set readings (record { definitions = []; docs = []; faults = [] }) old old
  grows_none old = record {
    nodes = sym (append-nil old.laying.nodes.items);
    rules = sym (append-nil old.rules);
    docs = sym (append-nil old.docs);
    defined = sym (append-nil old.defined.items);
    faults = λ all keeps. subst (λ faults. Keeps faults old.laying.faults) (sym (append-nil all)) keeps;
  }

  -- one addition behind another
  pub grows_both : {a b : Added} {old mid new : Whole} → Grows set readings a old mid → Grows set readings b mid new → Grows set readings (both a b) old new
  grows_both {a = a} {b = b} {old = old} {mid = mid} {new = new} one other =
      let f : Definition → Laid = λ d. laid (meant_in set readings d) d.rule.body in
      let n : ℕ = length old.laying.nodes.items in
      let ds = a.definitions in
      let es = b.definitions in
      record {
        nodes =
            nodes_both old.laying.nodes.items (map f ds) (map f es) one.nodes other.nodes
            ∙ ap (λ ones. old.laying.nodes.items ++ one_by_one n ones) (sym (map-append f ds es));
        rules =
            added_both old.rules (linked_rules ds (starts n (map f ds))) (linked_rules es (starts (length mid.laying.nodes.items) (map f es))) one.rules other.rules
            ∙ ap (λ rules. old.rules ++ rules) (
            ap (λ k. linked_rules ds (starts n (map f ds)) ++ linked_rules es (starts k (map f es))) (next_behind old.laying.nodes.items (map f ds) one.nodes)
            ∙ sym (linked_join f n ds es));
        docs = added_both old.docs a.docs b.docs one.docs other.docs;
        defined =
            added_both old.defined.items (map defined_of ds) (map defined_of es) one.defined other.defined
            ∙ ap (λ all. old.defined.items ++ all) (sym (map-append defined_of ds es));
        faults = tells_both a.faults b.faults one.faults other.faults;
      }
