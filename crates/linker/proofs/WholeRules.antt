-- Rules of one document: what one of them adds (`grows_rule`), and the rules so far.
use Rattle.std.proofs.Common.{ℕ, ◌≡◌, List, [], ◌∷◌, ◌++◌, length, reverse, refl, sym, ap, subst, ◌∙◌, append_assoc}
use Rattle.std.specs.List.{AllByRecursion}
use Rattle.std.proofs.lemmas.Grind.{flat_map-append}
use Rattle.std.proofs.lemmas.List.{append-nil, map-append, reverse-append}
use Rattle.vg_base.specs.declared.numbers.DocIx.{DocIx}
use Rattle.vg_base.specs.declared.numbers.NodeIx.{NodeIx}
use Rattle.grammar_tree.specs.declared.document.Doc.{Doc}
use Rattle.grammar_tree.specs.declared.document.Rule.{Rule}
use Rattle.rule_reader.specs.Imports.{IsReadable, uris_in, uris_of}
use Rattle.linker.specs.declared.documents.Whole.{Whole}
use Rattle.linker.specs.declared.scope.Scope.{Scope}
use Rattle.linker.specs.Readings.{Readings}
use Rattle.linker.specs.SetFaults.{reference_faults, references_in}
use Rattle.linker.specs.code.Layings.{Adds}
use Rattle.linker.specs.code.Wholes.{defined_of, Grows, definition_in, rules_in, LaysRules}
use Rattle.linker.proofs.LayingLists.{Tells, all_apart}
use Rattle.linker.proofs.WholeSums.{both, same_added, grows_none, grows_both}

-- ---- rules of one document

-- a rule was laid, and what is kept of it was added
pub record IsLaidRule (scope : Scope) (number : DocIx) (rule : Rule) (old new : Whole) : Type 0 where
  pub body : NodeIx
  pub begins : body.0 ≡ length old.laying.nodes.items
  pub rules : new.rules ≡ old.rules ++ record { doc = number; name = rule.name; public = rule.public; body = body } ∷ []
  pub docs : new.docs ≡ old.docs
  pub defined : (own : Doc) → new.defined.items ≡ old.defined.items ++ defined_of (definition_in scope own number rule) ∷ []

-- what one rule adds
pub grows_rule : {readings : Readings} {own : Doc} {scope : Scope} {number : DocIx} {rule : Rule} {old new : Whole} →
    IsLaidRule scope number rule old new → Adds readings own scope (rule.body ∷ []) old.laying new.laying →
    Grows scope.set.now readings (rules_in readings own scope number (rule ∷ [])) old new
grows_rule {readings = readings} {own = own} {scope = scope} {number = number} {rule = rule} {old = old} {new = new} is adds =
    let at : is.body ≡ record { 0 = length old.laying.nodes.items } = λ i. record { 0 = is.begins i } in
    let faults : reference_faults scope.set.now readings scope.place scope.key.now own (references_in rule.body ++ [])
    ≡ reference_faults scope.set.now readings scope.place scope.key.now own (references_in rule.body) ++ [] =
    ap (reference_faults scope.set.now readings scope.place scope.key.now own) (append-nil (references_in rule.body))
    ∙ sym (append-nil (reference_faults scope.set.now readings scope.place scope.key.now own (references_in rule.body))) in
    record {
      nodes = adds.nodes;
      rules = is.rules ∙ ap (λ (n : NodeIx). old.rules ++ record { doc = number; name = rule.name; public = rule.public; body = n } ∷ []) at;
      docs = is.docs ∙ sym (append-nil old.docs);
      defined = is.defined own;
      faults = subst (λ xs. Tells xs old.laying.faults new.laying.faults) faults adds.faults;
    }

-- the rules so far are laid
pub record RulesSoFar (scope : Scope) (number : DocIx) (all left : List Rule) (old new : Whole) : Type 0 where
  pub done : List Rule
  pub whole : all ≡ done ++ reverse left
  pub lays : LaysRules scope number done old new

-- none of them yet
pub no_rules_so_far : (scope : Scope) (number : DocIx) (all left : List Rule) (old : Whole) → all ≡ reverse left → RulesSoFar scope number all left old old
no_rules_so_far scope number all left old is = record { done = []; whole = is; lays = λ readings own within readable. grows_none scope.set.now readings old }

rules_join : (readings : Readings) (own : Doc) (scope : Scope) (number : DocIx) (xs ys : List Rule) →
    both (rules_in readings own scope number xs) (rules_in readings own scope number ys) ≡ rules_in readings own scope number (xs ++ ys)
rules_join readings own scope number xs ys =
    same_added (sym (map-append (definition_in scope own number) xs ys)) refl
    (sym (flat_map-append (λ rule. reference_faults scope.set.now readings scope.place scope.key.now own (references_in rule.body)) xs ys))

-- one more
pub one_rule_so_far : {scope : Scope} {number : DocIx} {all left others : List Rule} {old mid new : Whole} (rule : Rule) →
    RulesSoFar scope number all left old mid → left ≡ others ++ rule ∷ [] → LaysRules scope number (rule ∷ []) mid new → RulesSoFar scope number all others old new
one_rule_so_far {scope = scope} {number = number} {others = others} {old = old} {new = new} rule s is lays = record {
  done = s.done ++ rule ∷ [];
  whole = s.whole ∙ (ap (λ left. s.done ++ reverse left) is ∙ (ap (λ more. s.done ++ more) (reverse-append others (rule ∷ [])) ∙ sym (append_assoc s.done (rule ∷ []) (reverse others))));
  lays = λ readings own within readable.
      let f : Rule → List (List ℕ) = λ rule. uris_in rule.body in
      let apart = all_apart IsReadable (uris_of s.done) (uris_of (rule ∷ [])) (subst (AllByRecursion IsReadable) (flat_map-append f s.done (rule ∷ [])) readable) in
      subst (λ added. Grows scope.set.now readings added old new) (rules_join readings own scope number s.done (rule ∷ []))
      (grows_both scope.set.now readings (s.lays readings own within apart.0) (lays readings own within apart.1));
}

-- all of them
pub lays_all_rules : {scope : Scope} {number : DocIx} {all left : List Rule} {old new : Whole} → RulesSoFar scope number all left old new → left ≡ [] → LaysRules scope number all old new
lays_all_rules {scope = scope} {number = number} {all = all} {old = old} {new = new} s is =
    let done : s.done ≡ all = sym (s.whole ∙ (ap (λ left. s.done ++ reverse left) is ∙ append-nil s.done)) in
    subst (λ rules. LaysRules scope number rules old new) done s.lays

-- what is laid with these rules and this number is laid with equal ones
pub lays_as : {scope : Scope} {number other : DocIx} {rules others : List Rule} {old new : Whole} → number ≡ other → rules ≡ others → LaysRules scope number rules old new →
    LaysRules scope other others old new
lays_as {scope = scope} {number = number} {others = others} {old = old} {new = new} same equal lays =
    subst (λ n. LaysRules scope n others old new) same (subst (λ rules. LaysRules scope number rules old new) equal lays)
