-- Where no rule derives itself, a path of leads is no longer than the rules are many.
use Rattle.std.proofs.Common.{ℕ, ◌<◌, ◌≡◌, Bool, true, false, List, [], ◌∷◌, ◌++◌, Some, length, map, refl, sym, ap, subst, ⊎_elim, arith, eqb}
use Rattle.std.specs.List.{list_any, IsDistinct, AllByRecursion}
use Rattle.std.proofs.lemmas.Map.Steps.{length-le_from_distinct_below}
use Rattle.std.proofs.lemmas.Map.Keys.{IsDistinct-cons}
use Rattle.std.proofs.lemmas.Option.{slice_get_within}
use Rattle.std.proofs.lemmas.Bool.{eqb-true, or_cases}
use Rattle.std.proofs.lemmas.List.{length-map}
use Rattle.grammar_tree.specs.declared.linked.LinkedRule.{LinkedRule}
use Rattle.vg_base.specs.declared.numbers.NodeIx.{NodeIx}
use Rattle.vg_base.specs.declared.numbers.RuleIx.{RuleIx}
use Rattle.grammar_tree.specs.Links.{Rules, rule_at}
use Rattle.grammar_tree.specs.Alone.{Leads, LeadsThrough, NoSelfDerivation, Path, Shallow}

abbrev number : RuleIx → ℕ
number r = r.0

same_rule : (a b : RuleIx) → a.0 ≡ b.0 → a ≡ b
same_rule a b e = ap make e
  where
    make : ℕ → RuleIx
    make k = record { 0 = k }

no_number : IsDistinct eqb []
unfolding IsDistinct
no_number = tt

one_more : (L : Rules) (r m x : RuleIx) (ms : List RuleIx) → LeadsThrough L r ms m → Leads L m x → LeadsThrough L r (ms ++ m ∷ []) x
one_more L r m x [] l k = (l, k)
one_more L r m x (a ∷ ms) l k = (l.0, one_more L a m x ms l.1 k)

module _ (L : Rules) (acyclic : NoSelfDerivation L) where
  -- r leads to q, from where the path goes on, and so to nothing that leads back to r
  none_again : (r q : RuleIx) (rule : LinkedRule) → rule_at L q ≡ Some rule →
      ((x : RuleIx) → Leads L q x → (ms : List RuleIx) × LeadsThrough L r ms x) →
      (rs : List RuleIx) → Path L rule.body rs → AllByRecursion (λ y. eqb r.0 y ≡ false) (map number rs)
  none_again r q rule e to [] path = tt
  none_again r q rule e to (m ∷ ms) path =
      let here = to m (rule, e, path.0) in
      (apart m here (eqb r.0 m.0) refl, none_again r m path.1.0 path.1.1 (λ x l. (here.0 ++ m ∷ [], one_more L r m x here.0 here.1 l)) ms path.1.2)
    where
      apart : (m : RuleIx) → ((ms : List RuleIx) × LeadsThrough L r ms m) → (b : Bool) → eqb r.0 m.0 ≡ b → eqb r.0 m.0 ≡ false
      apart m here true h = let same = same_rule m r (sym (eqb-true r.0 m.0 h)) in absurd (acyclic r (here.0, subst (LeadsThrough L r here.0) same here.1))
      apart m here false h = h

  distinct : (n : NodeIx) (rs : List RuleIx) → Path L n rs → IsDistinct eqb (map number rs)
  distinct n [] path = no_number
  distinct n (r ∷ rs) path =
      IsDistinct-cons eqb r.0 (map number rs) (none_again r r path.1.0 path.1.1 (λ x l. ([], l)) rs path.1.2) (distinct path.1.0.body rs path.1.2)

  below : (n : NodeIx) (rs : List RuleIx) → Path L n rs → (q : ℕ) → list_any (eqb q) (map number rs) ≡ true → q < length L.rules
  below n [] path q has = absurd (cc)
  below n (r ∷ rs) path q has =
      ⊎_elim (λ h. let e = eqb-true q r.0 h in let w = slice_get_within L.rules r.0 path.1.0 path.1.1 in omega arith)
      (λ h. below path.1.0.body rs path.1.2 q h) (or_cases _ _ has)

  pub path_short : (n : NodeIx) → Shallow L n (length L.rules)
  path_short n = record { by = λ rs path. omega (arith, length-map rs number, length-le_from_distinct_below (map number rs) (length L.rules) (distinct n rs path) (below n rs path)) }
