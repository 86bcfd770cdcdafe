-- Lists in strictly rising order of their keys: two with the same elements are one.
use Rattle.std.proofs.Common.{ℕ, ◌≡◌, List, [], ◌∷◌, map, refl, sym, ◌∙◌, subst, inl, inr}
use Rattle.std.specs.List.{AllByRecursion}
use Rattle.std.specs.List.Sorted.{IsStrictlySortedBy}
use Rattle.std.specs.declared.cmp.Ordering.TheVariants.{Less, Equal}
use Rattle.std.proofs.lemmas.Cmp.{nat_list_cmp_total}
use Rattle.grammar_tree.specs.Firsts.{choice_cmp}
use Rattle.grammar_tree.proofs.Lists.{AnyByRecursion}
use Rattle.grammar_tree.proofs.Orders.{same-Equal}

abbrev pub IsBefore : List ℕ → List ℕ → Type 0
IsBefore xs ys = choice_cmp xs ys ≡ Less

abbrev pub AllAfter : List ℕ → List (List ℕ) → Type 0
AllAfter xs = AllByRecursion (λ ys. choice_cmp xs ys ≡ Less)

pub after_chain : (xs ys : List ℕ) (zss : List (List ℕ)) → IsBefore xs ys → AllAfter ys zss → AllAfter xs zss
after_chain xs ys [] b all = tt
after_chain xs ys (zs ∷ zss) b all = (nat_list_cmp_total.trans xs ys zs b all.0, after_chain xs ys zss b all.1)

module _ {X : Type 0} (key : X → List ℕ) where
  abbrev pub Sorted : List X → Type 0
  Sorted xs = IsStrictlySortedBy choice_cmp (map key xs)

  pub sorted_head : (x : X) (xs : List X) → Sorted (x ∷ xs) → AllAfter (key x) (map key xs) × Sorted xs
  unfolding IsStrictlySortedBy
  sorted_head x xs s = s

  pub sorted_more : (x : X) (xs : List X) → AllAfter (key x) (map key xs) → Sorted xs → Sorted (x ∷ xs)
  unfolding IsStrictlySortedBy
  sorted_more x xs a s = (a, s)

  pub sorted_none : Sorted []
  unfolding IsStrictlySortedBy
  sorted_none = tt

  pub is_after : (x y : X) (xs : List X) → AllAfter (key x) (map key xs) → AnyByRecursion (λ z. z ≡ y) xs → IsBefore (key x) (key y)
  is_after x y [] all h = absurd h
  is_after x y (z ∷ xs) all (inl e) = subst (λ z. IsBefore (key x) (key z)) e all.0
  is_after x y (z ∷ xs) all (inr h) = is_after x y xs all.1 h

  irreflexive : (x : X) → IsBefore (key x) (key x) → ⊥
  irreflexive x h = let e : Equal ≡ Less = sym (same-Equal (key x) (key x) refl) ∙ h in cc

  asymmetric : (x y : X) → IsBefore (key x) (key y) → IsBefore (key y) (key x) → ⊥
  asymmetric x y h g = irreflexive x (nat_list_cmp_total.trans (key x) (key y) (key x) h g)

  abbrev pub Among : List X → List X → Type 0
  Among xs ys = (x : X) → AnyByRecursion (λ z. z ≡ x) xs → AnyByRecursion (λ z. z ≡ x) ys

  same_head : (x y : X) (xs ys : List X) → Sorted (x ∷ xs) → Sorted (y ∷ ys) → AnyByRecursion (λ z. z ≡ x) (y ∷ ys) → AnyByRecursion (λ z. z ≡ y) (x ∷ xs) → x ≡ y
  same_head x y xs ys s r (inl e) g = sym e
  same_head x y xs ys s r (inr h) (inl e) = e
  same_head x y xs ys s r (inr h) (inr g) = absurd (asymmetric x y (is_after x y xs (sorted_head x xs s).0 g) (is_after y x ys (sorted_head y ys r).0 h))

  same_rest : (x y : X) (xs ys : List X) → x ≡ y → AllAfter (key x) (map key xs) → Among (x ∷ xs) (y ∷ ys) → Among xs ys
  same_rest x y xs ys e all to z h = at (to z (inr h))
    where
      at : AnyByRecursion (λ v. v ≡ z) (y ∷ ys) → AnyByRecursion (λ v. v ≡ z) ys
      at (inl f) = absurd (irreflexive x (subst (λ v. IsBefore (key x) (key v)) (sym (e ∙ f)) (is_after x z xs all h)))
      at (inr g) = g

  pub one_sorted : (xs ys : List X) → Sorted xs → Sorted ys → Among xs ys → Among ys xs → xs ≡ ys
  one_sorted [] [] s r to from = refl
  one_sorted [] (y ∷ ys) s r to from = absurd (from y (inl refl))
  one_sorted (x ∷ xs) [] s r to from = absurd (to x (inl refl))
  one_sorted (x ∷ xs) (y ∷ ys) s r to from =
      let e : x ≡ y = same_head x y xs ys s r (to x (inl refl)) (from y (inl refl)) in
      let a = sorted_head x xs s in
      let b = sorted_head y ys r in
      let rest : xs ≡ ys = one_sorted xs ys a.1 b.1 (same_rest x y xs ys e a.0 to) (same_rest y x ys xs (sym e) b.0 from) in
      cc
