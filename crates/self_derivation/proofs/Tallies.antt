-- How often numbers stand in lists, what marking one of them changes, and rows that grow.
use Rattle.std.proofs.Common.{◌≡◌, ◌⊎◌, ⊎_elim, ℕ, zero, suc, ◌+◌, ◌<◌, ◌≤◌, ◌==◌, Bool, true, false, not, cond, List, [], ◌∷◌, ◌++◌, length, get_or, replicate, refl, sym, ap, ◌∙◌, subst, arith, inl, inr, zero-add}
use Rattle.std.specs.Prelude.{count_by, slice_set}
use Rattle.std.specs.List.{All}
use Rattle.std.proofs.lemmas.Bool.{cases_eq, cases_lt, eq-eqb, ne_eqb}
use Rattle.std.proofs.lemmas.List.{append-nil, append_assoc, get_or-set_same, get_or-set_other, set-set, set-get_or, length-set}
use Rattle.std.proofs.lemmas.List.Sums.{sum_by-cons, sum_by-append, sum_by_push, sum_by-set, get_or-le-sum_by}
use Rattle.vg_base.specs.declared.numbers.NodeIx.{NodeIx}
use Rattle.self_derivation.specs.code.Marks.{bit, is_marked, times, times_named, row, Grown}

pub cond_none : (b : Bool) → ◌≡◌ {A = ℕ} (cond b 0 0) 0
cond_none true = refl
cond_none false = refl

pub cond_sum : (b : Bool) (x y : ℕ) → cond b x 0 + cond b y 0 ≡ cond b (x + y) 0
cond_sum true x y = refl
cond_sum false x y = refl

-- a test is 1 or 0
pub one_if : (b : Bool) → ((b ≡ true) × (bit b ≡ 1)) ⊎ ((b ≡ false) × (bit b ≡ 0))
one_if true = inl (refl, refl)
one_if false = inr (refl, refl)

-- ---- numbers in lists

pub times_push : (m n : ℕ) (xs : List ℕ) → times m (xs ++ n ∷ []) ≡ times m xs + cond (n == m) 1 0
times_push m n xs = sum_by_push (λ k. cond (k == m) 1 0) xs n

pub times-append : (m : ℕ) (xs ys : List ℕ) → times m (xs ++ ys) ≡ times m xs + times m ys
times-append m xs ys = sum_by-append (λ k. cond (k == m) 1 0) xs ys

pub named-append : (m : ℕ) (ps qs : List NodeIx) → times_named m (ps ++ qs) ≡ times_named m ps + times_named m qs
named-append m ps qs = sum_by-append (λ p. cond (p.0 == m) 1 0) ps qs

pub times_one : (n : ℕ) → times n (n ∷ []) ≡ 1
times_one n = ap (λ b. 0 + cond b 1 0) (eq-eqb n n refl)

pub times_other : (k n : ℕ) → (k ≡ n → ⊥) → times k (n ∷ []) ≡ 0
times_other k n other = ap (λ b. 0 + cond b 1 0) (ne_eqb n k (λ e. other (sym e)))

-- a number may be in the list or not
pub times_if : (b : Bool) (m n : ℕ) → times m (cond b (n ∷ []) []) ≡ cond (n == m) (cond b 1 0) 0
times_if true m n = zero-add (cond (n == m) 1 0)
times_if false m n = sym (cond_none (n == m))

pub stands : (xs : List ℕ) (k d : ℕ) → k < length xs → 0 < times (get_or xs k d) xs
stands xs k d lt =
    let one : bit (get_or xs k d == get_or xs k d) ≡ 1 = ap bit (eq-eqb (get_or xs k d) (get_or xs k d) refl) in
    omega (arith, get_or-le-sum_by (λ m. cond (m == get_or xs k d) 1 0) xs k d lt, one)

-- what doesn't stand beyond a bound is below it
pub all_below : (xs : List ℕ) (bound : ℕ) → ((m : ℕ) → bound ≤ m → times m xs ≡ 0) → All (λ m. m < bound) xs
all_below xs bound none k d lt = at (cases_lt (get_or xs k d) bound)
  where
    at : (get_or xs k d < bound) ⊎ (bound ≤ get_or xs k d) → get_or xs k d < bound
    at (inl h) = h
    at (inr h) = absurd (omega (arith, stands xs k d lt, none (get_or xs k d) h))

-- a number is pushed where a test holds
pub pushed_if : (n : ℕ) (t : Bool) (a b : List ℕ) → t ≡ true → b ≡ a ++ n ∷ [] → b ≡ a ++ cond t (n ∷ []) []
pushed_if n t a b holds is = is ∙ sym (ap (λ c. a ++ cond c (n ∷ []) []) holds)

pub not_pushed_if : (n : ℕ) (t : Bool) (a b : List ℕ) → t ≡ false → b ≡ a → b ≡ a ++ cond t (n ∷ []) []
not_pushed_if n t a b fails is = is ∙ sym (ap (λ c. a ++ cond c (n ∷ []) []) fails ∙ append-nil a)

-- ---- marks

pub marked_now : (marks : List Bool) (n : ℕ) → n < length marks → is_marked (slice_set marks n true) n ≡ true
marked_now marks n lt = get_or-set_same marks n true false lt

pub marked_before : (marks : List Bool) (n k : ℕ) → (k ≡ n → ⊥) → is_marked (slice_set marks n true) k ≡ is_marked marks k
marked_before marks n k other = get_or-set_other marks n k true false other

-- one mark more counts the nodes with its number
pub one_more_mark : (marks : List Bool) (n : ℕ) → n < length marks → is_marked marks n ≡ false → (ps : List NodeIx) →
    count_by (λ p. is_marked (slice_set marks n true) p.0) ps ≡ count_by (λ p. is_marked marks p.0) ps + times_named n ps
one_more_mark marks n lt clear [] = refl
one_more_mark marks n lt clear (p ∷ ps) =
    omega (
      arith,
      sum_by-cons (λ q. cond (is_marked (slice_set marks n true) q.0) 1 0) p ps,
      sum_by-cons (λ q. cond (is_marked marks q.0) 1 0) p ps,
      sum_by-cons (λ q. cond (q.0 == n) 1 0) p ps,
      one_more_mark marks n lt clear ps,
      first,
    )
  where
    first : bit (is_marked (slice_set marks n true) p.0) ≡ bit (is_marked marks p.0) + bit (p.0 == n)
    first = ⊎_elim
        (λ e. omega (
          arith,
          ap bit (ap (is_marked (slice_set marks n true)) e ∙ marked_now marks n lt),
          ap bit (ap (is_marked marks) e ∙ clear),
          ap bit (eq-eqb p.0 n e),
        ))
        (λ other. omega (arith, ap bit (marked_before marks n p.0 other), ap bit (ne_eqb p.0 n other))) (cases_eq p.0 n)

pub unmarked : (count n : ℕ) → is_marked (replicate count false) n ≡ false
unmarked zero n = refl
unmarked (suc count) zero = refl
unmarked (suc count) (suc n) = unmarked count n

pub one_fewer : (marks : List Bool) (n : ℕ) → n < length marks → is_marked marks n ≡ false → count_by (λ b. not b) (slice_set marks n true) + 1 ≡ count_by (λ b. not b) marks
one_fewer marks n lt clear =
    let one : bit (not (get_or marks n false)) ≡ 1 = ap (λ b. bit (not b)) clear in
    omega (arith, sum_by-set (λ b. cond (not b) 1 0) marks n true false lt, one)

-- ---- rows

pub row_bare : (count at : ℕ) → row (replicate count []) at ≡ []
row_bare zero at = refl
row_bare (suc count) zero = refl
row_bare (suc count) (suc at) = row_bare count at

pub grown_length : (at : ℕ) (more : List ℕ) (old now : List (List ℕ)) → Grown at more old now → length now ≡ length old
grown_length at more old now is = ap length is ∙ length-set old at (row old at ++ more)

pub grown_row : (at : ℕ) (more : List ℕ) (old now : List (List ℕ)) → at < length old → Grown at more old now → (p : ℕ) → row now p ≡ row old p ++ cond (at == p) more []
grown_row at more old now lt is p = ⊎_elim same other (cases_eq at p)
  where
    same : at ≡ p → row now p ≡ row old p ++ cond (at == p) more []
    same e =
        let here : row now p ≡ row old p ++ more =
        subst (λ q. row now q ≡ row old q ++ more) e (ap (λ rows. row rows at) is ∙ get_or-set_same old at (row old at ++ more) [] lt) in
        here ∙ ap (λ b. row old p ++ cond b more []) (sym (eq-eqb at p e))

    other : (at ≡ p → ⊥) → row now p ≡ row old p ++ cond (at == p) more []
    other ne =
        ap (λ rows. row rows p) is ∙ get_or-set_other old at p (row old at ++ more) [] (λ e. ne (sym e)) ∙ sym (append-nil (row old p))
        ∙ ap (λ b. row old p ++ cond b more []) (sym (ne_eqb at p ne))

pub grown_none : (at : ℕ) (rows : List (List ℕ)) → Grown at [] rows rows
grown_none at rows = sym (ap (λ r. slice_set rows at r) (append-nil (row rows at)) ∙ set-get_or rows at [])

pub grown_then : (at : ℕ) (xs ys : List ℕ) (a b c : List (List ℕ)) → at < length a → Grown at xs a b → Grown at ys b c → Grown at (xs ++ ys) a c
grown_then at xs ys a b c lt one other =
    let here : row b at ≡ row a at ++ xs = ap (λ rows. row rows at) one ∙ get_or-set_same a at (row a at ++ xs) [] lt in
    other ∙ ap (λ r. slice_set b at (r ++ ys)) here ∙ ap (λ rows. slice_set rows at ((row a at ++ xs) ++ ys)) one
    ∙ set-set a at (row a at ++ xs) ((row a at ++ xs) ++ ys) ∙ ap (λ r. slice_set a at r) (append_assoc (row a at) xs ys)
