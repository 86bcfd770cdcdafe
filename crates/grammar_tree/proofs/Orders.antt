-- The lexicographic order of lists of choices, and lists that differ at a place.
use Rattle.std.proofs.Common.{ℕ, ◌<◌, ◌≡◌, ◌≢◌, ◌⊎◌, List, [], ◌∷◌, ◌++◌, refl, sym, ap, ◌∙◌, subst, inl, inr}
use Rattle.std.specs.declared.cmp.Ordering.{Ordering}
use Rattle.std.specs.declared.cmp.Ordering.TheVariants.{Less, Equal, Greater}
use Rattle.std.specs.Ordering.{nat_cmp, ordering_then, MatchOrdering}
use Rattle.std.specs.Cmp.{nat_cmp_is}
use Rattle.std.proofs.lemmas.Cmp.{ranked}
use Rattle.grammar_tree.specs.Firsts.{choice_cmp}

-- the lists differ at a place, and the first is less there
abbrev pub Differs : List ℕ → List ℕ → Type 0
Differs [] ys = ⊥
Differs (x ∷ xs) [] = ⊥
Differs (x ∷ xs) (y ∷ ys) = (x < y) ⊎ ((x ≡ y) × Differs xs ys)

-- the first list stops where the second goes on
abbrev pub IsProperPrefix : List ℕ → List ℕ → Type 0
IsProperPrefix xs ys = (more : List ℕ) × (more ≢ []) × (xs ++ more ≡ ys)

abbrev at_heads : Ordering → Ordering → Ordering
at_heads here rest = ordering_then here rest

pub Differs-Less : (xs ys : List ℕ) → Differs xs ys → choice_cmp xs ys ≡ Less
Differs-Less [] ys d = absurd d
Differs-Less (x ∷ xs) [] d = absurd d
Differs-Less (x ∷ xs) (y ∷ ys) (inl lt) = ap (λ o. at_heads o (choice_cmp xs ys)) (sym (nat_cmp_is x y Less lt))
Differs-Less (x ∷ xs) (y ∷ ys) (inr d) = ap (λ o. at_heads o (choice_cmp xs ys)) (sym (nat_cmp_is x y Equal d.0)) ∙ Differs-Less xs ys d.1

pub Differs-Greater : (xs ys : List ℕ) → Differs ys xs → choice_cmp xs ys ≡ Greater
Differs-Greater [] [] d = absurd d
Differs-Greater (x ∷ xs) [] d = absurd d
Differs-Greater [] (y ∷ ys) d = absurd d
Differs-Greater (x ∷ xs) (y ∷ ys) (inl lt) = ap (λ o. at_heads o (choice_cmp xs ys)) (sym (nat_cmp_is x y Greater lt))
Differs-Greater (x ∷ xs) (y ∷ ys) (inr d) = ap (λ o. at_heads o (choice_cmp xs ys)) (sym (nat_cmp_is x y Equal (sym d.0))) ∙ Differs-Greater xs ys d.1

pub same-Equal : (xs ys : List ℕ) → xs ≡ ys → choice_cmp xs ys ≡ Equal
same-Equal xs ys e = subst (λ ys. choice_cmp xs ys ≡ Equal) e (itself xs)
  where
    itself : (xs : List ℕ) → choice_cmp xs xs ≡ Equal
    itself [] = refl
    itself (x ∷ xs) = ap (λ o. at_heads o (choice_cmp xs xs)) (sym (nat_cmp_is x x Equal refl)) ∙ itself xs

-- one of three: a place where they differ, one list, or a list that stops first
pub data Apart (xs ys : List ℕ) : Type 0 where
  less : Differs xs ys → Apart xs ys
  same : xs ≡ ys → Apart xs ys
  greater : Differs ys xs → Apart xs ys
  shorter : IsProperPrefix xs ys → Apart xs ys
  longer : IsProperPrefix ys xs → Apart xs ys

pub apart : (xs ys : List ℕ) → Apart xs ys
apart [] [] = same refl
apart [] (y ∷ ys) = shorter (y ∷ ys, (λ e. cc), refl)
apart (x ∷ xs) [] = longer (x ∷ xs, (λ e. cc), refl)
apart (x ∷ xs) (y ∷ ys) = at (nat_cmp x y) (ranked x y (nat_cmp x y) refl) (apart xs ys)
  where
    at : (o : Ordering) → MatchOrdering o (x < y) (x ≡ y) (y < x) → Apart xs ys → Apart (x ∷ xs) (y ∷ ys)
    at Less lt rest = less (inl lt)
    at Greater lt rest = greater (inl lt)
    at Equal e (less d) = less (inr (e, d))
    at Equal e (same s) = same (cc)
    at Equal e (greater d) = greater (inr (sym e, d))
    at Equal e (shorter p) = shorter (p.0, p.1, ap (λ z. z ∷ (xs ++ p.0)) e ∙ ap (λ zs. y ∷ zs) p.2)
    at Equal e (longer p) = longer (p.0, p.1, ap (λ z. z ∷ (ys ++ p.0)) (sym e) ∙ ap (λ zs. x ∷ zs) p.2)
