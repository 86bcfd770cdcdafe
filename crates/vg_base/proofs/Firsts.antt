-- The first of two lists of faults, by any total order.
use Rattle.std.proofs.Common.{◌≡◌, ℕ, zero, suc, ◌+◌, ◌<◌, true, false, List, [], ◌∷◌, ◌++◌, length, take, get_or, Option, Some, None, is_gt, refl, sym, ap, subst, ◌∙◌, arith}
use Rattle.std.specs.Prelude.{All}
use Rattle.std.specs.Cmp.{IsTotalOrder, upto, tied_itself}
use Rattle.std.specs.Ordering.{ordering_reverse}
use Rattle.std.specs.declared.cmp.Ordering.{Ordering}
use Rattle.std.specs.declared.cmp.Ordering.TheVariants.{Less, Equal, Greater}
use Rattle.std.proofs.lemmas.Bool.{cond_both}
use Rattle.std.proofs.lemmas.List.{append-nil, take_more}
use Rattle.std.proofs.lemmas.List.Elements.{All-append, Contains-append_left, Contains-append_right}
use Rattle.vg_base.specs.First.{IsFirst, sooner}

not_both : (o : Ordering) → is_gt o ≡ true → is_gt (ordering_reverse o) ≡ false
not_both Less e = absurd cc
not_both Equal e = refl
not_both Greater e = refl

neither : (o : Ordering) → is_gt o ≡ false → is_gt (ordering_reverse o) ≡ false → o ≡ Equal
neither Less e h = absurd cc
neither Equal e h = refl
neither Greater e h = absurd cc

module _ {F : Type 0} (cmp : F → F → Ordering) (total : IsTotalOrder cmp) where
  turned : (f g : F) → is_gt (cmp f g) ≡ true → is_gt (cmp g f) ≡ false
  turned f g e = ap is_gt (total.antisymm g f) ∙ not_both (cmp f g) e

  -- what is not after one that is before all is before all
  before_all : (f g : F) (fs : List F) → is_gt (cmp f g) ≡ false → All (λ x. is_gt (cmp g x) ≡ false) fs → All (λ x. is_gt (cmp f x) ≡ false) fs
  before_all f g fs e h = λ k d within. upto total f g (get_or fs k d) e (h k d within)

  pub first-later : (fs gs : List F) (f g : F) → IsFirst cmp fs (Some f) → IsFirst cmp gs (Some g) → is_gt (cmp f g) ≡ true → IsFirst cmp (fs ++ gs) (Some g)
  first-later fs gs f g h k e = (Contains-append_right fs gs g k.0, All-append (λ x. is_gt (cmp g x) ≡ false) fs gs (before_all g f fs (turned f g e) h.1) k.1)

  pub first-earlier : (fs gs : List F) (f g : F) → IsFirst cmp fs (Some f) → IsFirst cmp gs (Some g) → is_gt (cmp f g) ≡ false → IsFirst cmp (fs ++ gs) (Some f)
  first-earlier fs gs f g h k e = (Contains-append_left fs gs f h.0, All-append (λ x. is_gt (cmp f x) ≡ false) fs gs h.1 (before_all f g gs e k.1))

  -- the first of two lists is the sooner of the firsts
  pub first-append : (fs gs : List F) (a b : Option F) → IsFirst cmp fs a → IsFirst cmp gs b → IsFirst cmp (fs ++ gs) (sooner cmp a b)
  first-append fs gs None b h k = subst (λ (xs : List F). IsFirst cmp (xs ++ gs) b) (sym h) k
  first-append fs gs (Some f) None h k = subst (λ (xs : List F). IsFirst cmp xs (Some f)) (sym (append-nil fs) ∙ ap (λ (ys : List F). fs ++ ys) (sym k)) h
  first-append fs gs (Some f) (Some g) h k = cond_both (is_gt (cmp f g)) (Some g) (Some f) (IsFirst cmp (fs ++ gs)) (first-later fs gs f g h k) (first-earlier fs gs f g h k)

  pub first-one : (f : F) → IsFirst cmp (f ∷ []) (Some f)
  first-one f = ((0, omega arith, refl), at)
    where
      at : (k : ℕ) (d : F) → k < 1 → is_gt (cmp f (get_or (f ∷ []) k d)) ≡ false
      at zero d h = ap is_gt (tied_itself total f)
      at (suc k) d h = absurd (omega arith)

  pub first-take : (fs : List F) (i : ℕ) (f : F) (a : Option F) → i < length fs → f ≡ get_or fs i f → IsFirst cmp (take i fs ++ f ∷ []) a → IsFirst cmp (take (i + 1) fs) a
  first-take fs i f a within e h = subst (λ (xs : List F). IsFirst cmp xs a) (ap (λ x. take i fs ++ x ∷ []) e ∙ sym (take_more fs i f within)) h

  -- two firsts of one list stand alike
  pub one_first : (fs : List F) (f g : F) → IsFirst cmp fs (Some f) → IsFirst cmp fs (Some g) → cmp f g ≡ Equal
  one_first fs f g h k = neither (cmp f g) (not_after f g h k) (ap is_gt (sym (total.antisymm g f)) ∙ not_after g f k h)
    where
      not_after : (x y : F) → IsFirst cmp fs (Some x) → IsFirst cmp fs (Some y) → is_gt (cmp x y) ≡ false
      not_after x y p q = subst (λ (z : F). is_gt (cmp x z) ≡ false) q.0.2 (p.1 q.0.0 y q.0.1)
