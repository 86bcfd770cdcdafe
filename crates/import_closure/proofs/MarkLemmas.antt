-- Marks, and the places that are marked.
use Rattle.std.proofs.Common.{arith, ◌≡◌, refl, sym, ap, subst, ◌∙◌, ℕ, zero, suc, ◌+◌, ◌<◌, ◌≤◌, Bool, true, false, cond, List, [], ◌∷◌, ◌++◌, length, map, take, get_or, All}
use Rattle.std.specs.Prelude.{Contains, ◌↔◌}
use Rattle.std.specs.List.{AllPairs}
use Rattle.std.specs.List.Sorted.{IsStrictlyIncreasing}
use Rattle.std.proofs.lemmas.List.Kept.{AllPairs-cons}
use Rattle.std.proofs.lemmas.List.{length-take-le}
use Rattle.std.proofs.Math.Seq.{take-suc}
use Rattle.vg_base.specs.declared.numbers.DocIx.{DocIx}
use Rattle.rule_reader.specs.Sets.{ix}
use Rattle.import_closure.specs.code.Marks.{IsMarked, places_from}

abbrev numbers : List DocIx → List ℕ
numbers = map (λ y. y.0)

-- ---- they rise

above : (n m : ℕ) (marks : List Bool) → m ≤ n → All (λ y. m ≤ y) (numbers (places_from n marks))
above n m [] le k d lt = absurd (omega (arith, lt))
above n m (true ∷ marks) le zero d lt = le
above n m (true ∷ marks) le (suc k) d lt = above (suc n) m marks (omega arith) k d (omega arith)
above n m (false ∷ marks) le k d lt = above (suc n) m marks (omega arith) k d lt

pairs : (n : ℕ) (marks : List Bool) → AllPairs (λ x y. x < y) (numbers (places_from n marks))
pairs n [] = λ i j d lt within. absurd (omega (arith, within))
pairs n (true ∷ marks) = AllPairs-cons (λ x y. x < y) n (numbers (places_from (suc n) marks)) (λ k d lt. above (suc n) (suc n) marks (omega arith) k d lt) (pairs (suc n) marks)
pairs n (false ∷ marks) = pairs (suc n) marks

pub places_rise : (docs : List DocIx) (marks : List Bool) → docs ≡ places_from 0 marks → IsStrictlyIncreasing (map (λ y. y.0) docs)
places_rise docs marks is = subst (λ l. IsStrictlyIncreasing (numbers l)) (sym is) (λ k lt. pairs 0 marks k (k + 1) 0 (omega arith) lt)

-- ---- they are those of the marks

found : (n : ℕ) (marks : List Bool) (y : ℕ) → Contains (places_from n marks) (ix y) → (k : ℕ) × (y ≡ n + k) × IsMarked marks k
found n [] y c = absurd (omega (arith, c.1))
found n (true ∷ marks) y c = at c.0 c.1 c.2 (λ d. let r = found (suc n) marks y d in (suc r.0, omega (arith, r.1), r.2))
  where
    at : (k : ℕ) → k < length (ix n ∷ places_from (suc n) marks) → get_or (ix n ∷ places_from (suc n) marks) k (ix y) ≡ ix y
        → (Contains (places_from (suc n) marks) (ix y) → (k : ℕ) × (y ≡ n + k) × IsMarked (true ∷ marks) k) → (k : ℕ) × (y ≡ n + k) × IsMarked (true ∷ marks) k
    at zero lt e more = let same : n ≡ y = ap (λ d. d.0) e in (0, omega arith, refl)
    at (suc k) lt e more = more (k, omega arith, e)
found n (false ∷ marks) y c = let r = found (suc n) marks y c in (suc r.0, omega (arith, r.1), r.2)

listed : (n : ℕ) (marks : List Bool) (k y : ℕ) → IsMarked marks k → y ≡ n + k → Contains (places_from n marks) (ix y)
listed n [] k y m e = absurd (cc)
listed n (true ∷ marks) zero y m e = (0, omega arith, ap ix (omega arith))
listed n (true ∷ marks) (suc k) y m e = let r = listed (suc n) marks k y m (omega arith) in (suc r.0, omega (arith, r.1), r.2)
listed n (false ∷ marks) zero y m e = absurd (cc)
listed n (false ∷ marks) (suc k) y m e = listed (suc n) marks k y m (omega arith)

pub places_are_marked : (docs : List DocIx) (marks : List Bool) → docs ≡ places_from 0 marks → (y : ℕ) → Contains docs (ix y) ↔ IsMarked marks y
places_are_marked docs marks is y =
    subst (λ l. Contains l (ix y) ↔ IsMarked marks y) (sym is)
    ((λ c. let r = found 0 marks y c in subst (λ k. IsMarked marks k) (omega (arith, r.1)) r.2), (λ m. listed 0 marks y y m (omega arith)))

-- ---- one more

more : (n : ℕ) (marks : List Bool) (b : Bool) → places_from n (marks ++ b ∷ []) ≡ places_from n marks ++ cond b (ix (n + length marks) ∷ []) []
more n [] true = ap (λ m. ix m ∷ []) (omega arith)
more n [] false = refl
more n (true ∷ marks) b = ap (λ l. ix n ∷ l) (more (suc n) marks b ∙ ap (λ m. places_from (suc n) marks ++ cond b (ix m ∷ []) []) (omega arith))
more n (false ∷ marks) b = more (suc n) marks b ∙ ap (λ m. places_from (suc n) marks ++ cond b (ix m ∷ []) []) (omega arith)

pub one_more_mark : (marks : List Bool) (i : ℕ) (d : Bool) → i < length marks → places_from 0 (take (i + 1) marks) ≡ places_from 0 (take i marks) ++ cond (get_or marks i d) (ix i ∷ []) []
one_more_mark marks i d lt =
    let next : i + 1 ≡ suc i = omega arith in
    let len : 0 + length (take i marks) ≡ i = omega (arith, length-take-le i marks (omega arith)) in
    ap (places_from 0) (ap (λ j. take j marks) next ∙ take-suc marks i d lt) ∙ more 0 (take i marks) (get_or marks i d)
    ∙ ap (λ m. places_from 0 (take i marks) ++ cond (get_or marks i d) (ix m ∷ []) []) len
