-- Lists with an element of which something holds, and lists put together.
use Rattle.std.proofs.Common.{ℕ, zero, suc, ◌<◌, ◌≡◌, ◌⊎◌, List, [], ◌∷◌, ◌++◌, length, map, get_or, refl, sym, inl, inr, arith}
use Rattle.std.specs.List.{Contains, flat_map}

-- P holds of an element: `Any` of std by recursion, as std has `AllByRecursion` beside `All`
abbrev pub AnyByRecursion : {X : Type 0} → (X → Type 0) → List X → Type 0
AnyByRecursion P [] = ⊥
AnyByRecursion P (x ∷ xs) = P x ⊎ AnyByRecursion P xs

module _ {X : Type 0} where
  pub any_left : (P : X → Type 0) (xs ys : List X) → AnyByRecursion P xs → AnyByRecursion P (xs ++ ys)
  any_left P [] ys h = absurd h
  any_left P (x ∷ xs) ys (inl h) = inl h
  any_left P (x ∷ xs) ys (inr h) = inr (any_left P xs ys h)

  pub any_right : (P : X → Type 0) (xs ys : List X) → AnyByRecursion P ys → AnyByRecursion P (xs ++ ys)
  any_right P [] ys h = h
  any_right P (x ∷ xs) ys h = inr (any_right P xs ys h)

module _ {X : Type 0} where
  pub any_flat : {Y : Type 0} (P : X → Type 0) (Q : Y → Type 0) (f : X → List Y) (xs : List X) → AnyByRecursion P xs → ((x : X) → P x → AnyByRecursion Q (f x)) → AnyByRecursion Q (flat_map f xs)
  any_flat P Q f [] h g = absurd h
  any_flat P Q f (x ∷ xs) (inl h) g = any_left Q (f x) (flat_map f xs) (g x h)
  any_flat P Q f (x ∷ xs) (inr h) g = any_right Q (f x) (flat_map f xs) (any_flat P Q f xs h g)

  pub any_map : {Y : Type 0} (P : X → Type 0) (Q : Y → Type 0) (f : X → Y) (xs : List X) → AnyByRecursion P xs → ((x : X) → P x → Q (f x)) → AnyByRecursion Q (map f xs)
  any_map P Q f [] h g = absurd h
  any_map P Q f (x ∷ xs) (inl h) g = inl (g x h)
  any_map P Q f (x ∷ xs) (inr h) g = inr (any_map P Q f xs h g)

  pub any_if_contained : (xs : List X) (x : X) → Contains xs x → AnyByRecursion (λ y. y ≡ x) xs
  any_if_contained [] x h = absurd (omega (arith, h.1))
  any_if_contained (y ∷ xs) x h = at h.0 h.1 h.2 (λ k lt e. any_if_contained xs x (k, lt, e))
    where
      at : (k : ℕ) → k < length (y ∷ xs) → get_or (y ∷ xs) k x ≡ x → ((k : ℕ) → k < length xs → get_or xs k x ≡ x → AnyByRecursion (λ y. y ≡ x) xs) → AnyByRecursion (λ y. y ≡ x) (y ∷ xs)
      at zero lt e more = inl e
      at (suc k) lt e more = inr (more k (omega arith) e)

  pub contained_if_any : (xs : List X) (x : X) → AnyByRecursion (λ y. y ≡ x) xs → Contains xs x
  contained_if_any [] x h = absurd h
  contained_if_any (y ∷ xs) x (inl e) = (0, omega arith, e)
  contained_if_any (y ∷ xs) x (inr h) = let rest = contained_if_any xs x h in (suc rest.0, omega (arith, rest.1), rest.2)

  pub nil_front : (xs ys : List X) → xs ++ ys ≡ [] → xs ≡ []
  nil_front [] ys e = refl
  nil_front (x ∷ xs) ys e = absurd (cc)

  pub nil_back : (xs ys : List X) → xs ++ ys ≡ [] → ys ≡ []
  nil_back [] ys e = e
  nil_back (x ∷ xs) ys e = absurd (cc)

  -- one element lies before or after the cut
  pub one_cut : (x : X) (xs ys : List X) → x ∷ [] ≡ xs ++ ys → ((xs ≡ []) × (ys ≡ x ∷ [])) ⊎ ((xs ≡ x ∷ []) × (ys ≡ []))
  one_cut x [] ys e = inl (refl, sym e)
  one_cut x (y ∷ xs) ys e =
      let rest : xs ++ ys ≡ [] = cc in
      let first : xs ≡ [] = nil_front xs ys rest in
      inr (cc, nil_back xs ys rest)
