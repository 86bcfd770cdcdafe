-- Elements of lists by their places: lists put together and cut, one place written, several places written.
use Rattle.std.proofs.Common.{ℕ, zero, suc, ◌+◌, ◌-◌, ◌<◌, ◌≡◌, ◌≢◌, ◌⊎◌, inl, inr, List, [], ◌∷◌, ◌++◌, Some, length, take, drop, get_or, map, refl, sym, ap, ◌∙◌, subst, ⊎_elim, arith}
use Rattle.std.specs.Prelude.{slice_get, slice_set, Contains}
use Rattle.std.proofs.lemmas.Option.{slice_get_within, slice_get-get_or, get_or_from_slice_get, same_Some}
use Rattle.std.proofs.Math.Seq.{take-suc}
use Rattle.graph_cycles.specs.code.Sets.{set_all}

module _ {X : Type 0} where
  -- ---- put together

  -- what stands in the first list stands there in both
  pub left_old : (xs ys : List X) (k : ℕ) (x : X) → slice_get xs k ≡ Some x → slice_get (xs ++ ys) k ≡ Some x
  left_old [] ys k x h = absurd (cc)
  left_old (z ∷ xs) ys zero x h = h
  left_old (z ∷ xs) ys (suc k) x h = left_old xs ys k x h

  -- what stands in the second one stands behind the first
  pub right_new : (xs ys : List X) (k : ℕ) (x : X) → slice_get ys k ≡ Some x → slice_get (xs ++ ys) (length xs + k) ≡ Some x
  right_new [] ys k x h = let e : 0 + k ≡ k = omega arith in subst (λ n. slice_get ys n ≡ Some x) (sym e) h
  right_new (z ∷ xs) ys k x h =
      let e : length (z ∷ xs) + k ≡ suc (length xs + k) = omega arith in
      subst (λ n. slice_get (z ∷ (xs ++ ys)) n ≡ Some x) (sym e) (right_new xs ys k x h)

  -- and nothing else stands in both
  pub append_cases : (xs ys : List X) (k : ℕ) (x : X) → slice_get (xs ++ ys) k ≡ Some x
      → (slice_get xs k ≡ Some x) ⊎ ((i : ℕ) × (k ≡ length xs + i) × (slice_get ys i ≡ Some x))
  append_cases [] ys k x h = inr (k, omega arith, h)
  append_cases (z ∷ xs) ys zero x h = inl h
  append_cases (z ∷ xs) ys (suc k) x h = ⊎_elim (λ a. inl a) (λ a. inr (a.0, omega (arith, a.1), a.2)) (append_cases xs ys k x h)

  -- the same of one element more
  pub push_new : (xs : List X) (y : X) → slice_get (xs ++ y ∷ []) (length xs) ≡ Some y
  push_new [] y = refl
  push_new (z ∷ xs) y = push_new xs y

  -- it, or what stood there before
  pub push_cases : (xs : List X) (y : X) (k : ℕ) (x : X) → slice_get (xs ++ y ∷ []) k ≡ Some x → (slice_get xs k ≡ Some x) ⊎ ((k ≡ length xs) × (y ≡ x))
  push_cases [] y zero x h = inr (refl, cc)
  push_cases [] y (suc k) x h = absurd (cc)
  push_cases (z ∷ xs) y zero x h = inl h
  push_cases (z ∷ xs) y (suc k) x h = ⊎_elim (λ a. inl a) (λ a. inr (ap suc a.0, a.1)) (push_cases xs y k x h)

  -- ---- cut

  -- what stands in a front
  pub take_old : (n : ℕ) (xs : List X) (k : ℕ) (x : X) → slice_get (take n xs) k ≡ Some x → (k < n) × (slice_get xs k ≡ Some x)
  take_old zero xs k x h = absurd (cc)
  take_old (suc n) [] k x h = absurd (cc)
  take_old (suc n) (z ∷ xs) zero x h = (omega arith, h)
  take_old (suc n) (z ∷ xs) (suc k) x h = let r = take_old n xs k x h in (omega (arith, r.0), r.1)

  -- what stands before the cut stays
  pub take_stays : (n : ℕ) (xs : List X) (k : ℕ) (x : X) → slice_get xs k ≡ Some x → k < n → slice_get (take n xs) k ≡ Some x
  take_stays zero xs k x h lt = absurd (omega (arith, lt))
  take_stays (suc n) [] k x h lt = absurd (cc)
  take_stays (suc n) (z ∷ xs) zero x h lt = h
  take_stays (suc n) (z ∷ xs) (suc k) x h lt = take_stays n xs k x h (omega (arith, lt))

  -- what stands behind the cut
  pub drop_at : (n : ℕ) (xs : List X) (k : ℕ) → slice_get (drop n xs) k ≡ slice_get xs (n + k)
  drop_at zero xs k = let e : k ≡ 0 + k = omega arith in ap (slice_get xs) e
  drop_at (suc n) [] k = refl
  drop_at (suc n) (z ∷ xs) k = let e : suc (n + k) ≡ suc n + k = omega arith in drop_at n xs k ∙ ap (slice_get (z ∷ xs)) e

  -- ---- one place written

  -- what was written is read there
  pub set_same : (xs : List X) (k : ℕ) (y : X) → k < length xs → slice_get (slice_set xs k y) k ≡ Some y
  set_same [] k y lt = absurd (omega (arith, lt))
  set_same (x ∷ xs) zero y lt = refl
  set_same (x ∷ xs) (suc k) y lt = set_same xs k y (omega (arith, lt))

  -- elsewhere nothing changes
  pub set_other : (xs : List X) (k j : ℕ) (y : X) → j ≢ k → slice_get (slice_set xs k y) j ≡ slice_get xs j
  set_other [] k j y ne = refl
  set_other (x ∷ xs) zero zero y ne = absurd (ne refl)
  set_other (x ∷ xs) zero (suc j) y ne = refl
  set_other (x ∷ xs) (suc k) zero y ne = refl
  set_other (x ∷ xs) (suc k) (suc j) y ne = set_other xs k j y (λ e. ne (ap suc e))

  -- nor does the length
  pub set_length : (xs : List X) (k : ℕ) (y : X) → length (slice_set xs k y) ≡ length xs
  set_length [] k y = refl
  set_length (x ∷ xs) zero y = refl
  set_length (x ∷ xs) (suc k) y = ap suc (set_length xs k y)

  -- ---- several places

  -- the length stays
  pub set_all_length : (ks : List ℕ) (x : X) (xs : List X) → length (set_all ks x xs) ≡ length xs
  set_all_length [] x xs = refl
  set_all_length (k ∷ ks) x xs = set_all_length ks x (slice_set xs k x) ∙ set_length xs k x

  -- one place more is written last
  pub set_all_push : (ks : List ℕ) (k : ℕ) (x : X) (xs : List X) → set_all (ks ++ k ∷ []) x xs ≡ slice_set (set_all ks x xs) k x
  set_all_push [] k x xs = refl
  set_all_push (z ∷ ks) k x xs = set_all_push ks k x (slice_set xs z x)

  -- a place that is not among them keeps what it has
  pub set_all_other : (ks : List ℕ) (x : X) (xs : List X) (j : ℕ) → ((i : ℕ) → slice_get ks i ≢ Some j) → slice_get (set_all ks x xs) j ≡ slice_get xs j
  set_all_other [] x xs j out = refl
  set_all_other (k ∷ ks) x xs j out =
      set_all_other ks x (slice_set xs k x) j (λ i. out (suc i)) ∙ set_other xs k j x (λ e. out 0 (ap Some (sym e)))

  -- what is written stays, since the same is written everywhere
  set_all_keeps : (ks : List ℕ) (x : X) (xs : List X) (j : ℕ) → slice_get xs j ≡ Some x → slice_get (set_all ks x xs) j ≡ Some x
  set_all_keeps [] x xs j h = h
  set_all_keeps (k ∷ ks) x xs j h = set_all_keeps ks x (slice_set xs k x) j (again xs k j h)
    where
      again : (xs : List X) (k j : ℕ) → slice_get xs j ≡ Some x → slice_get (slice_set xs k x) j ≡ Some x
      again [] k j h = h
      again (z ∷ xs) zero zero h = refl
      again (z ∷ xs) zero (suc j) h = h
      again (z ∷ xs) (suc k) zero h = h
      again (z ∷ xs) (suc k) (suc j) h = again xs k j h

  -- a place that is among them has the value
  pub set_all_same : (ks : List ℕ) (x : X) (xs : List X) (i j : ℕ) → slice_get ks i ≡ Some j → j < length xs → slice_get (set_all ks x xs) j ≡ Some x
  set_all_same [] x xs i j h lt = absurd (cc)
  set_all_same (k ∷ ks) x xs zero j h lt =
      let same : k ≡ j = cc in
      set_all_keeps ks x (slice_set xs k x) j (subst (λ n. slice_get (slice_set xs k x) n ≡ Some x) same (set_same xs k x (subst (λ n. n < length xs) (sym same) lt)))
  set_all_same (k ∷ ks) x xs (suc i) j h lt = set_all_same ks x (slice_set xs k x) i j h (omega (arith, lt, set_length xs k x))

-- ---- membership

-- an element stands somewhere
pub contains_at : {X : Type 0} (xs : List X) (x : X) → Contains xs x → (k : ℕ) × (slice_get xs k ≡ Some x)
contains_at xs x (k, lt, e) = (k, slice_get-get_or xs k x lt ∙ ap Some e)

-- what stands somewhere is an element
pub at_contains : {X : Type 0} (xs : List X) (x : X) (k : ℕ) → slice_get xs k ≡ Some x → Contains xs x
at_contains xs x k h = (k, slice_get_within xs k x h, get_or_from_slice_get xs k x x h)

-- ---- images

module _ {X Y : Type 0} (f : X → Y) where
  -- the image stands where the element does
  pub map_at : (xs : List X) (k : ℕ) (x : X) → slice_get xs k ≡ Some x → slice_get (map f xs) k ≡ Some (f x)
  map_at [] k x h = absurd (cc)
  map_at (z ∷ xs) zero x h = ap (λ y. Some (f y)) (same_Some z x h)
  map_at (z ∷ xs) (suc k) x h = map_at xs k x h

  -- what stands among images is one
  pub map_cases : (xs : List X) (k : ℕ) (y : Y) → slice_get (map f xs) k ≡ Some y → (x : X) × (slice_get xs k ≡ Some x) × (f x ≡ y)
  map_cases [] k y h = absurd (cc)
  map_cases (z ∷ xs) zero y h = (z, refl, same_Some (f z) y h)
  map_cases (z ∷ xs) (suc k) y h = map_cases xs k y h

-- before the end some element stands
pub some_at : {X : Type 0} (xs : List X) (k : ℕ) → k < length xs → (x : X) × (slice_get xs k ≡ Some x)
some_at [] k lt = absurd (omega (arith, lt))
some_at (z ∷ xs) zero lt = (z, refl)
some_at (z ∷ xs) (suc k) lt = some_at xs k (omega (arith, lt))

-- one place more of a list that is gone through
pub set_all_next : {X : Type 0} (ks : List ℕ) (i : ℕ) (x : X) (xs : List X) → i < length ks → set_all (take (i + 1) ks) x xs ≡ slice_set (set_all (take i ks) x xs) (get_or ks i 0) x
set_all_next ks i x xs lt =
    let e : i + 1 ≡ suc i = omega arith in
    ap (λ l. set_all l x xs) (ap (λ n. take n ks) e ∙ take-suc ks i 0 lt) ∙ set_all_push (take i ks) (get_or ks i 0) x xs
