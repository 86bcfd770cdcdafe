-- What holds of each item of a list, by recursion.
use Rattle.std.proofs.Common.{◌≡◌, ℕ, zero, suc, List, [], ◌∷◌, ◌++◌, Some, map, subst}
use Rattle.std.specs.Prelude.{slice_get}
use Rattle.std.specs.List.{AllByRecursion}

module _ {X : Type 0} (P : X → Type 0) where
  pub each_append : (xs ys : List X) → AllByRecursion P xs → AllByRecursion P ys → AllByRecursion P (xs ++ ys)
  each_append [] ys h k = k
  each_append (x ∷ xs) ys h k = (h.0, each_append xs ys h.1 k)

  pub each_placed : (xs : List X) → ((k : ℕ) (x : X) → slice_get xs k ≡ Some x → P x) → AllByRecursion P xs
  each_placed [] h = tt
  each_placed (x ∷ xs) h = (h 0 x (λ i. Some x), each_placed xs (λ k. h (suc k)))

  pub each_at : (xs : List X) (k : ℕ) (x : X) → AllByRecursion P xs → slice_get xs k ≡ Some x → P x
  each_at [] k x h is = absurd (cc)
  each_at (y ∷ xs) zero x h is = let same : y ≡ x = cc in subst P same h.0
  each_at (y ∷ xs) (suc k) x h is = each_at xs k x h.1 is

  pub each_weaker : (Q : X → Type 0) → ((x : X) → P x → Q x) → (xs : List X) → AllByRecursion P xs → AllByRecursion Q xs
  each_weaker Q f [] h = tt
  each_weaker Q f (x ∷ xs) h = (f x h.0, each_weaker Q f xs h.1)

  pub each_map : {Y : Type 0} (f : Y → X) (ys : List Y) → AllByRecursion (λ y. P (f y)) ys → AllByRecursion P (map f ys)
  each_map f [] h = tt
  each_map f (y ∷ ys) h = (h.0, each_map f ys h.1)
