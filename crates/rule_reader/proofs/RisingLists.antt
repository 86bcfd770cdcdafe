-- Lists that rise: two with the same members are one.
use Rattle.std.proofs.Common.{arith, ◌≡◌, ◌⊎◌, inl, inr, ⊎_elim, ap, sym, refl, subst, ◌∙◌, ℕ, zero, suc, ◌<◌, List, [], ◌∷◌, length, map, get_or}
use Rattle.std.specs.Prelude.{Contains}
use Rattle.std.specs.List.{AllPairs}
use Rattle.std.specs.List.Sorted.{IsStrictlyIncreasing}
use Rattle.std.proofs.lemmas.List.Kept.{AllPairs-from_increasing}
use Rattle.vg_base.specs.declared.numbers.DocIx.{DocIx}
use Rattle.rule_reader.specs.Sets.{ix}

abbrev Rises : List ℕ → Type 0
Rises = AllPairs (λ x y. x < y)

tail : (x : ℕ) (xs : List ℕ) → Rises (x ∷ xs) → Rises xs
tail x xs h i j d lt within = h (suc i) (suc j) d (omega arith) (omega arith)

head : (x : ℕ) (xs : List ℕ) (y : ℕ) → Rises (x ∷ xs) → Contains xs y → x < y
head x xs y h c = subst (λ z. x < z) c.2 (h 0 (suc c.0) y (omega arith) (omega (arith, c.1)))

first : (x : ℕ) (xs : List ℕ) → Contains (x ∷ xs) x
first x xs = (0, omega arith, refl)

later : (x : ℕ) (xs : List ℕ) (y : ℕ) → Contains xs y → Contains (x ∷ xs) y
later x xs y c = (suc c.0, omega (arith, c.1), c.2)

cases : (x : ℕ) (xs : List ℕ) (y : ℕ) → Contains (x ∷ xs) y → (x ≡ y) ⊎ Contains xs y
cases x xs y c = at c.0 c.1 c.2
  where
    at : (k : ℕ) → k < length (x ∷ xs) → get_or (x ∷ xs) k y ≡ y → (x ≡ y) ⊎ Contains xs y
    at zero lt e = inl e
    at (suc k) lt e = inr (k, omega arith, e)

nothing : (y : ℕ) → Contains [] y → ⊥
nothing y c = omega (arith, c.1)

-- the least members are one
same_first : (x y : ℕ) (xs ys : List ℕ) → Rises (x ∷ xs) → Rises (y ∷ ys) → Contains (y ∷ ys) x → Contains (x ∷ xs) y → x ≡ y
same_first x y xs ys h g c b =
    ⊎_elim (λ e. sym e) (λ in_ys. ⊎_elim (λ e. e) (λ in_xs. let one = head x xs y h in_xs in let other = head y ys x g in_ys in absurd (omega arith)) (cases x xs y b)) (cases y ys x c)

-- a member of the rest is one of the other rest
rest : (x y : ℕ) (xs ys : List ℕ) → x ≡ y → Rises (x ∷ xs) → ((z : ℕ) → Contains (x ∷ xs) z → Contains (y ∷ ys) z) → (z : ℕ) → Contains xs z → Contains ys z
rest x y xs ys e h to z c =
    ⊎_elim (λ f. let above = head x xs z h c in absurd (omega arith)) (λ d. d) (cases y ys z (to z (later x xs z c)))

same : (xs ys : List ℕ) → Rises xs → Rises ys → ((z : ℕ) → Contains xs z → Contains ys z) → ((z : ℕ) → Contains ys z → Contains xs z) → xs ≡ ys
same [] [] h g to back = refl
same [] (y ∷ ys) h g to back = absurd (nothing y (back y (first y ys)))
same (x ∷ xs) [] h g to back = absurd (nothing x (to x (first x xs)))
same (x ∷ xs) (y ∷ ys) h g to back =
    let e = same_first x y xs ys h g (to x (first x xs)) (back y (first y ys)) in
    let more = same xs ys (tail x xs h) (tail y ys g) (rest x y xs ys e h to) (rest y x ys xs (sym e) g back) in
    ap (λ z. z ∷ xs) e ∙ ap (λ zs. y ∷ zs) more

-- ---- lists of places

abbrev numbers : List DocIx → List ℕ
numbers = map (λ y. y.0)

abbrev number_first : List ℕ → ℕ
number_first [] = 0
number_first (x ∷ xs) = x

abbrev number_rest : List ℕ → List ℕ
number_rest [] = []
number_rest (x ∷ xs) = xs

same_places : (xs ys : List DocIx) → numbers xs ≡ numbers ys → xs ≡ ys
same_places [] [] e = refl
same_places [] (y ∷ ys) e = absurd (cc)
same_places (x ∷ xs) [] e = absurd (cc)
same_places (x ∷ xs) (y ∷ ys) e = ap (λ z. z ∷ xs) (ap ix (ap number_first e)) ∙ ap (λ zs. y ∷ zs) (same_places xs ys (ap number_rest e))

as_number : (xs : List DocIx) (y : ℕ) → Contains xs (ix y) → Contains (numbers xs) y
as_number [] y c = absurd (omega (arith, c.1))
as_number (x ∷ xs) y c = at c.0 c.1 c.2 (as_number xs y)
  where
    at : (k : ℕ) → k < length (x ∷ xs) → get_or (x ∷ xs) k (ix y) ≡ ix y → (Contains xs (ix y) → Contains (numbers xs) y) → Contains (numbers (x ∷ xs)) y
    at zero lt e more = (0, omega arith, ap (λ d. d.0) e)
    at (suc k) lt e more = later x.0 (numbers xs) y (more (k, omega arith, e))

as_place : (xs : List DocIx) (y : ℕ) → Contains (numbers xs) y → Contains xs (ix y)
as_place [] y c = absurd (omega (arith, c.1))
as_place (x ∷ xs) y c = ⊎_elim (λ e. (0, omega arith, ap ix e)) (λ d. let more = as_place xs y d in (suc more.0, omega (arith, more.1), more.2)) (cases x.0 (numbers xs) y c)

pub one_list : (xs ys : List DocIx) → IsStrictlyIncreasing (numbers xs) → IsStrictlyIncreasing (numbers ys)
    → ((y : ℕ) → Contains xs (ix y) → Contains ys (ix y)) → ((y : ℕ) → Contains ys (ix y) → Contains xs (ix y)) → xs ≡ ys
one_list xs ys h g to back =
    same_places xs ys (same (numbers xs) (numbers ys) (AllPairs-from_increasing (numbers xs) h) (AllPairs-from_increasing (numbers ys) g)
    (λ y c. as_number ys y (to y (as_place xs y c))) (λ y c. as_number xs y (back y (as_place ys y c))))
