-- Lists by number: one element more, one element changed, and lists in which no two are equal.
use Rattle.std.proofs.Common.{get_or, Bool, true, false, ℕ, zero, suc, ◌+◌, ◌<◌, ◌≤◌, ◌≡◌, ◌≢◌, ◌⊎◌, inl, inr, List, [], ◌∷◌, ◌++◌, Option, Some, None, length, refl, sym, ap, ◌∙◌, subst, ⊎_elim, arith, true≢false}
use Rattle.std.specs.Prelude.{slice_get, slice_set}
use Rattle.std.specs.List.{IsDistinct, AllByRecursion}
use Rattle.std.specs.Bool.{Decides}
use Rattle.std.proofs.lemmas.Bool.{cases_eq}
use Rattle.std.proofs.lemmas.Option.{slice_get-get_or}

module _ {X : Type 0} where
  pub push_old : (xs : List X) (y : X) (k : ℕ) (x : X) → slice_get xs k ≡ Some x → slice_get (xs ++ y ∷ []) k ≡ Some x
  push_old [] y k x h = absurd (cc)
  push_old (z ∷ xs) y zero x h = h
  push_old (z ∷ xs) y (suc k) x h = push_old xs y k x h

  pub push_new : (xs : List X) (y : X) → slice_get (xs ++ y ∷ []) (length xs) ≡ Some y
  push_new [] y = refl
  push_new (z ∷ xs) y = push_new xs y

  pub push_cases : (xs : List X) (y : X) (k : ℕ) (x : X) → slice_get (xs ++ y ∷ []) k ≡ Some x → (slice_get xs k ≡ Some x) ⊎ ((k ≡ length xs) × (y ≡ x))
  push_cases [] y zero x h = inr (refl, cc)
  push_cases [] y (suc k) x h = absurd (cc)
  push_cases (z ∷ xs) y zero x h = inl h
  push_cases (z ∷ xs) y (suc k) x h = ⊎_elim (λ a. inl a) (λ a. inr (ap suc a.0, a.1)) (push_cases xs y k x h)

  pub set_same : (xs : List X) (k : ℕ) (y : X) → k < length xs → slice_get (slice_set xs k y) k ≡ Some y
  set_same [] k y lt = absurd (omega (arith, lt))
  set_same (x ∷ xs) zero y lt = refl
  set_same (x ∷ xs) (suc k) y lt = set_same xs k y (omega (arith, lt))

  pub set_other : (xs : List X) (k j : ℕ) (y : X) → j ≢ k → slice_get (slice_set xs k y) j ≡ slice_get xs j
  set_other [] k j y ne = refl
  set_other (x ∷ xs) zero zero y ne = absurd (ne refl)
  set_other (x ∷ xs) zero (suc j) y ne = refl
  set_other (x ∷ xs) (suc k) zero y ne = refl
  set_other (x ∷ xs) (suc k) (suc j) y ne = set_other xs k j y (λ e. ne (ap suc e))

  all_at : (P : X → Type 0) (xs : List X) (k : ℕ) (x : X) → AllByRecursion P xs → slice_get xs k ≡ Some x → P x
  all_at P [] k x all h = absurd (cc)
  all_at P (y ∷ xs) zero x all h = let same : y ≡ x = cc in subst P same all.0
  all_at P (y ∷ xs) (suc k) x all h = all_at P xs k x all.1 h

  module _ (eq : X → X → Bool) (same : (a b : X) → Decides (eq a b) (a ≡ b)) where
    -- where no two are equal, an element has one number
    pub one_number : (xs : List X) → IsDistinct eq xs → (i j : ℕ) (x : X) → slice_get xs i ≡ Some x → slice_get xs j ≡ Some x → i ≡ j
    unfolding IsDistinct
    one_number [] d i j x h h' = absurd (cc)
    one_number (y ∷ xs) d zero zero x h h' = refl
    one_number (y ∷ xs) d (suc i) (suc j) x h h' = ap suc (one_number xs d.1 i j x h h')
    one_number (y ∷ xs) d zero (suc j) x h h' =
        let e : y ≡ x = cc in
        absurd (true≢false (sym ((same y x).1 e) ∙ all_at (λ z. eq y z ≡ false) xs j x d.0 h'))
    one_number (y ∷ xs) d (suc i) zero x h h' =
        let e : y ≡ x = cc in
        absurd (true≢false (sym ((same y x).1 e) ∙ all_at (λ z. eq y z ≡ false) xs i x d.0 h))

pub set_length : {X : Type 0} (xs : List X) (k : ℕ) (y : X) → length (slice_set xs k y) ≡ length xs
set_length [] k y = refl
set_length (x ∷ xs) zero y = refl
set_length (x ∷ xs) (suc k) y = ap suc (set_length xs k y)

-- what stands at a number after one element was changed
pub set_cases : {X : Type 0} (xs : List X) (k j : ℕ) (y x : X) → k < length xs → slice_get (slice_set xs k y) j ≡ Some x →
    ((j ≡ k) × (y ≡ x)) ⊎ ((j ≢ k) × (slice_get xs j ≡ Some x))
set_cases xs k j y x lt h = ⊎_elim
    (λ same. inl (same, some_same (sym (set_same xs k y lt) ∙ sym (ap (λ n. slice_get (slice_set xs k y) n) same) ∙ h)))
    (λ other. inr (other, sym (set_other xs k j y other) ∙ h))
    (cases_eq j k)
  where
    some_same : Some y ≡ Some x → y ≡ x
    some_same e = cc

-- what a number below the length reads
pub get_from : {X : Type 0} (xs : List X) (k : ℕ) (x : X) → k < length xs → x ≡ get_or xs k x → slice_get xs k ≡ Some x
get_from xs k x lt e = slice_get-get_or xs k x lt ∙ ap Some (sym e)
