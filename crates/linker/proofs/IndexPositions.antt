-- Where the first item of a list stands that passes a test.
use Rattle.std.proofs.Common.{◌≡◌, ℕ, suc, ◌+◌, ◌<◌, ◌==◌, nat_lt, Bool, true, false, cond, not, List, [], ◌∷◌, ◌++◌, Option, Some, None, length, map, refl, sym, ap, ◌∙◌, arith}
use Rattle.std.specs.List.{AllByRecursion, position, position_or_len}
use Rattle.std.specs.Option.{option_map}
use Rattle.std.proofs.lemmas.Bool.Decides.{nat_tests}
use Rattle.std.proofs.lemmas.Option.{cond_some}

-- ---- tests on numbers

lt_zero : (n : ℕ) → nat_lt 0 (suc n) ≡ true
lt_zero n = grind (arith, nat_tests)

lt_more : (m n : ℕ) → nat_lt m n ≡ true → nat_lt (1 + m) (suc n) ≡ true
lt_more m n e = grind (arith, nat_tests)

lt_none : (m n : ℕ) → nat_lt m n ≡ false → nat_lt (1 + m) (suc n) ≡ false
lt_none m n e = grind (arith, nat_tests)

pub eq_same : (a b : ℕ) → a ≡ b → (a == b) ≡ true
eq_same a b e = grind (arith, nat_tests)

pub eq_below : (a b : ℕ) → a < b → (a == b) ≡ false
eq_below a b lt = grind (arith, nat_tests)

pub eq_above : (a b : ℕ) → b < a → (a == b) ≡ false
eq_above a b lt = grind (arith, nat_tests)

-- ---- where the first item stands that passes

pub maps_same : {X Y : Type 0} (f g : X → Y) (o : Option X) → ((x : X) → o ≡ Some x → f x ≡ g x) → option_map f o ≡ option_map g o
maps_same f g None h = refl
maps_same f g (Some x) h = ap (λ y. Some y) (h x refl)

module _ {X : Type 0} (p : X → Bool) where
  pub position-cons : (x : X) (xs : List X) → position p (x ∷ xs) ≡ cond (p x) (Some 0) (option_map suc (position p xs))
  position-cons x xs = at (p x)
    where
      m : ℕ
      m = position_or_len p xs

      go : (b : Bool) → nat_lt m (length xs) ≡ b → cond (nat_lt (1 + m) (suc (length xs))) (Some (1 + m)) None ≡ option_map suc (cond b (Some m) None)
      go true e =
          let one : 1 + m ≡ suc m = omega arith in
          ap (λ b. cond b (Some (1 + m)) None) (lt_more m (length xs) e) ∙ ap (λ (k : ℕ). Some k) one
      go false e = ap (λ b. cond b (Some (1 + m)) None) (lt_none m (length xs) e)

      at : (b : Bool) → cond (nat_lt (cond (not b) (1 + m) 0) (suc (length xs))) (Some (cond (not b) (1 + m) 0)) None ≡ cond b (Some 0) (option_map suc (cond (nat_lt m (length xs)) (Some m) None))
      at true = ap (λ b. cond b (Some 0) None) (lt_zero (length xs))
      at false = go (nat_lt m (length xs)) refl

  pub position_none : (xs : List X) → AllByRecursion (λ x. p x ≡ false) xs → position p xs ≡ None
  position_none [] h = refl
  position_none (x ∷ xs) h =
      position-cons x xs ∙ ap (λ b. cond b (Some 0) (option_map suc (position p xs))) h.0 ∙ ap (λ (o : Option ℕ). option_map suc o) (position_none xs h.1)

  pub position_skip : (xs ys : List X) → AllByRecursion (λ x. p x ≡ false) xs → position p (xs ++ ys) ≡ option_map (λ k. length xs + k) (position p ys)
  position_skip [] ys h = at (position p ys)
    where
      at : (o : Option ℕ) → o ≡ option_map (λ k. 0 + k) o
      at None = refl
      at (Some k) = let e : k ≡ 0 + k = omega arith in ap (λ (k : ℕ). Some k) e
  position_skip (x ∷ xs) ys h =
      position-cons x (xs ++ ys) ∙ ap (λ b. cond b (Some 0) (option_map suc (position p (xs ++ ys)))) h.0 ∙ ap (λ (o : Option ℕ). option_map suc o) (position_skip xs ys h.1) ∙ at (position p ys)
    where
      at : (o : Option ℕ) → option_map suc (option_map (λ k. length xs + k) o) ≡ option_map (λ k. suc (length xs) + k) o
      at None = refl
      at (Some k) = let e : suc (length xs + k) ≡ suc (length xs) + k = omega arith in ap (λ (k : ℕ). Some k) e

module _ {X Y : Type 0} (f : X → Y) (p : Y → Bool) (q : X → Bool) (same : (x : X) → p (f x) ≡ q x) where
  pub position_first : (xs : List X) (ys : List Y) → AllByRecursion (λ y. p y ≡ false) ys → position p (map f xs ++ ys) ≡ position q xs
  position_first [] ys h = position_none p ys h
  position_first (x ∷ xs) ys h =
      let rest = position_first xs ys h in
      position-cons p (f x) (map f xs ++ ys) ∙ (λ i. cond (same x i) (Some 0) (option_map suc (rest i))) ∙ sym (position-cons q x xs)

-- ---- it is a place of the list

pub position_within : {X : Type 0} (p : X → Bool) (xs : List X) (k : ℕ) → position p xs ≡ Some k → k < length xs
position_within p xs k is =
    let h = cond_some (nat_lt (position_or_len p xs) (length xs)) (position_or_len p xs) k is in
    let test : nat_lt (position_or_len p xs) (length xs) ≡ true = h.0 in
    let same : position_or_len p xs ≡ k = h.1 in
    grind (arith, nat_tests)
