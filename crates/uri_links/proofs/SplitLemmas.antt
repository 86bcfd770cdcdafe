-- A text cut at a character.
use Rattle.std.proofs.Common.{◌≡◌, ◌≢◌, ℕ, zero, suc, ◌<◌, Bool, true, false, ◌||◌, cond, eqb, List, [], ◌∷◌, ◌++◌, length, get_or, take, drop, Option, None, Some, refl, ap, sym, ◌∙◌, arith}
use Rattle.std.proofs.lemmas.List.{append-nil}
use Rattle.std.proofs.lemmas.Bool.{false≢true, or_parts, or_from, or_right, ne_eqb, eqb-true}
use Rattle.std.proofs.lemmas.Bool.Decides.{nat_tests}
use Rattle.uri_links.specs.Split.{has, before, from, after, before_last, up_to_last, slash}
use Rattle.uri_links.specs.Parts.{IsEmptyOrRooted}

pub some_none : {A : Type 0} (x : A) → Some x ≡ None → ⊥
some_none x e = cc

pub is_same : (c : ℕ) → eqb c c ≡ true
is_same c = grind (arith, nat_tests)

-- a text with no such character
pub before-none : (c : ℕ) (xs : List ℕ) → has c xs ≡ false → before c xs ≡ xs
before-none c [] h = refl
before-none c (x ∷ xs) h =
    let n = or_parts (eqb x c) (has c xs) h in
    ap (λ b. cond b [] (x ∷ before c xs)) n.0 ∙ ap (λ l. x ∷ l) (before-none c xs n.1)

pub after-none : (c : ℕ) (xs : List ℕ) → has c xs ≡ false → after c xs ≡ None
after-none c [] h = refl
after-none c (x ∷ xs) h = let n = or_parts (eqb x c) (has c xs) h in ap (λ b. cond b (Some xs) (after c xs)) n.0 ∙ after-none c xs n.1

pub from-none : (c : ℕ) (xs : List ℕ) → has c xs ≡ false → from c xs ≡ []
from-none c [] h = refl
from-none c (x ∷ xs) h = let n = or_parts (eqb x c) (has c xs) h in ap (λ b. cond b (x ∷ xs) (from c xs)) n.0 ∙ from-none c xs n.1

pub before_last-none : (c : ℕ) (xs : List ℕ) → has c xs ≡ false → before_last c xs ≡ []
before_last-none c [] h = refl
before_last-none c (x ∷ xs) h = let n = or_parts (eqb x c) (has c xs) h in ap (λ b. cond b (x ∷ before_last c xs) []) n.1

pub up_to_last-none : (c : ℕ) (xs : List ℕ) → has c xs ≡ false → up_to_last c xs ≡ []
up_to_last-none c [] h = refl
up_to_last-none c (x ∷ xs) h = ap (λ b. cond b (x ∷ up_to_last c xs) []) h

-- such a text in front of another
pub before-past : (c : ℕ) (xs ys : List ℕ) → has c xs ≡ false → before c (xs ++ ys) ≡ xs ++ before c ys
before-past c [] ys h = refl
before-past c (x ∷ xs) ys h =
    let n = or_parts (eqb x c) (has c xs) h in
    ap (λ b. cond b [] (x ∷ before c (xs ++ ys))) n.0 ∙ ap (λ l. x ∷ l) (before-past c xs ys n.1)

pub after-past : (c : ℕ) (xs ys : List ℕ) → has c xs ≡ false → after c (xs ++ ys) ≡ after c ys
after-past c [] ys h = refl
after-past c (x ∷ xs) ys h =
    let n = or_parts (eqb x c) (has c xs) h in ap (λ b. cond b (Some (xs ++ ys)) (after c (xs ++ ys))) n.0 ∙ after-past c xs ys n.1

pub from-past : (c : ℕ) (xs ys : List ℕ) → has c xs ≡ false → from c (xs ++ ys) ≡ from c ys
from-past c [] ys h = refl
from-past c (x ∷ xs) ys h =
    let n = or_parts (eqb x c) (has c xs) h in ap (λ b. cond b (x ∷ (xs ++ ys)) (from c (xs ++ ys))) n.0 ∙ from-past c xs ys n.1

pub before-at : (c : ℕ) (ys : List ℕ) → before c (c ∷ ys) ≡ []
before-at c ys = ap (λ b. cond b [] (c ∷ before c ys)) (is_same c)

pub after-at : (c : ℕ) (ys : List ℕ) → after c (c ∷ ys) ≡ Some ys
after-at c ys = ap (λ b. cond b (Some ys) (after c ys)) (is_same c)

pub from-at : (c : ℕ) (ys : List ℕ) → from c (c ∷ ys) ≡ c ∷ ys
from-at c ys = ap (λ b. cond b (c ∷ ys) (from c ys)) (is_same c)

pub no-append : (c : ℕ) (xs ys : List ℕ) → has c xs ≡ false → has c ys ≡ false → has c (xs ++ ys) ≡ false
no-append c [] ys h g = g
no-append c (x ∷ xs) ys h g = let n = or_parts (eqb x c) (has c xs) h in or_from (eqb x c) (has c (xs ++ ys)) n.0 (no-append c xs ys n.1 g)

pub has-inside : (c : ℕ) (xs ys : List ℕ) → has c (xs ++ c ∷ ys) ≡ true
has-inside c [] ys = ap (λ b. b || has c ys) (is_same c)
has-inside c (x ∷ xs) ys = or_right (eqb x c) (has c (xs ++ c ∷ ys)) (has-inside c xs ys)

-- each text is what comes before the character, and what comes from it on
pub parted : (c : ℕ) (xs : List ℕ) → before c xs ++ from c xs ≡ xs
parted c [] = refl
parted c (x ∷ xs) = go (eqb x c) refl (parted c xs)
  where
    go : (b : Bool) → eqb x c ≡ b → before c xs ++ from c xs ≡ xs → cond (eqb x c) [] (x ∷ before c xs) ++ cond (eqb x c) (x ∷ xs) (from c xs) ≡ x ∷ xs
    go true e others = rw e refl
    go false e others = rw e (ap (λ l. x ∷ l) others)

-- what comes from the character on
abbrev pub marked : ℕ → Option (List ℕ) → List ℕ
marked c None = []
marked c (Some xs) = c ∷ xs

pub from-marked : (c : ℕ) (xs : List ℕ) → from c xs ≡ marked c (after c xs)
from-marked c [] = refl
from-marked c (x ∷ xs) = go (eqb x c) refl (from-marked c xs)
  where
    go : (b : Bool) → eqb x c ≡ b → from c xs ≡ marked c (after c xs) → cond (eqb x c) (x ∷ xs) (from c xs) ≡ marked c (cond (eqb x c) (Some xs) (after c xs))
    go true e others = rw e (ap (λ y. y ∷ xs) (eqb-true x c e))
    go false e others = rw e others

pub none_after : (c : ℕ) (xs : List ℕ) → after c xs ≡ None → has c xs ≡ false
none_after c [] h = refl
none_after c (x ∷ xs) h = go (eqb x c) refl h (none_after c xs)
  where
    go : (b : Bool) → eqb x c ≡ b → cond (eqb x c) (Some xs) (after c xs) ≡ None → (after c xs ≡ None → has c xs ≡ false) → (eqb x c || has c xs) ≡ false
    go true e h others = absurd (some_none xs (sym (ap (λ b. cond b (Some xs) (after c xs)) e) ∙ h))
    go false e h others = or_from (eqb x c) (has c xs) e (others (sym (ap (λ b. cond b (Some xs) (after c xs)) e) ∙ h))

pub has-before : (c : ℕ) (xs : List ℕ) → has c (before c xs) ≡ false
has-before c [] = refl
has-before c (x ∷ xs) = go (eqb x c) refl (has-before c xs)
  where
    go : (b : Bool) → eqb x c ≡ b → has c (before c xs) ≡ false → has c (cond (eqb x c) [] (x ∷ before c xs)) ≡ false
    go true e others = rw e refl
    go false e others = rw e (or_from (eqb x c) (has c (before c xs)) e others)

pub no-before : (d c : ℕ) (xs : List ℕ) → has d xs ≡ false → has d (before c xs) ≡ false
no-before d c [] h = refl
no-before d c (x ∷ xs) h = let n = or_parts (eqb x d) (has d xs) h in go (eqb x c) refl n.0 (no-before d c xs n.1)
  where
    go : (b : Bool) → eqb x c ≡ b → eqb x d ≡ false → has d (before c xs) ≡ false → has d (cond (eqb x c) [] (x ∷ before c xs)) ≡ false
    go true e here others = rw e refl
    go false e here others = rw e (or_from (eqb x d) (has d (before c xs)) here others)

pub no-from : (d c : ℕ) (xs : List ℕ) → has d xs ≡ false → has d (from c xs) ≡ false
no-from d c [] h = refl
no-from d c (x ∷ xs) h = go (eqb x c) refl (no-from d c xs (or_parts (eqb x d) (has d xs) h).1)
  where
    go : (b : Bool) → eqb x c ≡ b → has d (from c xs) ≡ false → has d (cond (eqb x c) (x ∷ xs) (from c xs)) ≡ false
    go true e others = rw e h
    go false e others = rw e others

pub no-after : (d c : ℕ) (xs rest : List ℕ) → has d xs ≡ false → after c xs ≡ Some rest → has d rest ≡ false
no-after d c xs rest h e =
    let whole : from c xs ≡ c ∷ rest = from-marked c xs ∙ ap (marked c) e in
    (or_parts (eqb c d) (has d rest) (ap (has d) (sym whole) ∙ no-from d c xs h)).1

pub rooted-from : (xs : List ℕ) → IsEmptyOrRooted (from slash xs)
rooted-from [] = tt
rooted-from (x ∷ xs) = go (eqb x slash) refl (rooted-from xs)
  where
    go : (b : Bool) → eqb x slash ≡ b → IsEmptyOrRooted (from slash xs) → IsEmptyOrRooted (cond (eqb x slash) (x ∷ xs) (from slash xs))
    go true e others = rw e (eqb-true x slash e)
    go false e others = rw e others

-- what a search found, by its place
pub none_at : (c : ℕ) (xs : List ℕ) → ((i : ℕ) → i < length xs → get_or xs i 0 ≢ c) → has c xs ≡ false
none_at c [] h = refl
none_at c (x ∷ xs) h = or_from (eqb x c) (has c xs) (ne_eqb x c (h 0 (omega arith))) (none_at c xs (λ i l. h (suc i) (omega (arith, l))))

pub before-found : (c : ℕ) (xs : List ℕ) (k : ℕ) → k < length xs → get_or xs k 0 ≡ c → ((i : ℕ) → i < k → get_or xs i 0 ≢ c) → before c xs ≡ take k xs
before-found c [] k l e h = absurd (omega arith)
before-found c (x ∷ xs) zero l e h = ap (λ b. cond b [] (x ∷ before c xs)) (ap (λ y. eqb y c) e ∙ is_same c)
before-found c (x ∷ xs) (suc k) l e h =
    ap (λ b. cond b [] (x ∷ before c xs)) (ne_eqb x c (h 0 (omega arith)))
    ∙ ap (λ r. x ∷ r) (before-found c xs k (omega (arith, l)) e (λ i i_small. h (suc i) (omega (arith, i_small))))

pub from-found : (c : ℕ) (xs : List ℕ) (k : ℕ) → k < length xs → get_or xs k 0 ≡ c → ((i : ℕ) → i < k → get_or xs i 0 ≢ c) → from c xs ≡ drop k xs
from-found c [] k l e h = absurd (omega arith)
from-found c (x ∷ xs) zero l e h = ap (λ b. cond b (x ∷ xs) (from c xs)) (ap (λ y. eqb y c) e ∙ is_same c)
from-found c (x ∷ xs) (suc k) l e h =
    ap (λ b. cond b (x ∷ xs) (from c xs)) (ne_eqb x c (h 0 (omega arith)))
    ∙ from-found c xs k (omega (arith, l)) e (λ i i_small. h (suc i) (omega (arith, i_small)))

pub has-found : (c : ℕ) (xs : List ℕ) (k : ℕ) → k < length xs → get_or xs k 0 ≡ c → has c xs ≡ true
has-found c [] k l e = absurd (omega arith)
has-found c (x ∷ xs) zero l e = ap (λ b. b || has c xs) (ap (λ y. eqb y c) e ∙ is_same c)
has-found c (x ∷ xs) (suc k) l e = or_right (eqb x c) (has c xs) (has-found c xs k (omega (arith, l)) e)

pub before_last-found : (c : ℕ) (xs : List ℕ) (k : ℕ) → k < length xs → get_or xs k 0 ≡ c → ((i : ℕ) → k < i → i < length xs → get_or xs i 0 ≢ c) → before_last c xs ≡ take k xs
before_last-found c [] k l e h = absurd (omega arith)
before_last-found c (x ∷ xs) zero l e h =
    ap (λ b. cond b (x ∷ before_last c xs) []) (none_at c xs (λ i i_small. h (suc i) (omega arith) (omega (arith, i_small))))
before_last-found c (x ∷ xs) (suc k) l e h =
    ap (λ b. cond b (x ∷ before_last c xs) []) (has-found c xs k (omega (arith, l)) e)
    ∙ ap (λ r. x ∷ r) (before_last-found c xs k (omega (arith, l)) e (λ i above within. h (suc i) (omega (arith, above)) (omega (arith, within))))

pub up_to_last-found : (c : ℕ) (xs : List ℕ) (k : ℕ) → k < length xs → get_or xs k 0 ≡ c → ((i : ℕ) → k < i → i < length xs → get_or xs i 0 ≢ c) → up_to_last c xs ≡ take (suc k) xs
up_to_last-found c [] k l e h = absurd (omega arith)
up_to_last-found c (x ∷ xs) zero l e h =
    ap (λ b. cond b (x ∷ up_to_last c xs) []) (has-found c (x ∷ xs) 0 l e)
    ∙ ap (λ r. x ∷ r) (up_to_last-none c xs (none_at c xs (λ i i_small. h (suc i) (omega arith) (omega (arith, i_small)))))
up_to_last-found c (x ∷ xs) (suc k) l e h =
    ap (λ b. cond b (x ∷ up_to_last c xs) []) (has-found c (x ∷ xs) (suc k) l e)
    ∙ ap (λ r. x ∷ r) (up_to_last-found c xs k (omega (arith, l)) e (λ i above within. h (suc i) (omega (arith, above)) (omega (arith, within))))

-- a text that is cut at the character
module _ (c : ℕ) (text front back : List ℕ) (whole : text ≡ front ++ c ∷ back) (none : has c front ≡ false) where
  pub before-split : before c text ≡ front
  before-split = ap (before c) whole ∙ (before-past c front (c ∷ back) none ∙ (ap (λ l. front ++ l) (before-at c back) ∙ append-nil front))

  pub after-split : after c text ≡ Some back
  after-split = ap (after c) whole ∙ (after-past c front (c ∷ back) none ∙ after-at c back)

  pub from-split : from c text ≡ c ∷ back
  from-split = ap (from c) whole ∙ (from-past c front (c ∷ back) none ∙ from-at c back)

pub before-within : (c : ℕ) (xs ys : List ℕ) → has c xs ≡ true → before c (xs ++ ys) ≡ before c xs
before-within c [] ys h = absurd (false≢true h)
before-within c (x ∷ xs) ys h = go (eqb x c) refl (before-within c xs ys)
  where
    go : (b : Bool) → eqb x c ≡ b → (has c xs ≡ true → before c (xs ++ ys) ≡ before c xs)
        → cond (eqb x c) [] (x ∷ before c (xs ++ ys)) ≡ cond (eqb x c) [] (x ∷ before c xs)
    go true e others = rw e refl
    go false e others = rw e (ap (λ l. x ∷ l) (others (sym (ap (λ b. b || has c xs) e) ∙ h)))

left_of : (a b : Bool) → (a || b) ≡ true → b ≡ false → a ≡ true
left_of true b h e = refl
left_of false b h e = absurd (false≢true (sym e ∙ h))

-- a text up to its last such character
pub last-whole : (c : ℕ) (xs : List ℕ) → has c xs ≡ true → (rest : List ℕ) × (xs ≡ before_last c xs ++ c ∷ rest)
last-whole c [] h = absurd (false≢true h)
last-whole c (x ∷ xs) h = go (has c xs) refl (last-whole c xs)
  where
    go : (b : Bool) → has c xs ≡ b → (has c xs ≡ true → (rest : List ℕ) × (xs ≡ before_last c xs ++ c ∷ rest))
        → (rest : List ℕ) × (x ∷ xs ≡ cond (has c xs) (x ∷ before_last c xs) [] ++ c ∷ rest)
    go true e others = let o = others e in (o.0, rw e (ap (λ l. x ∷ l) o.1))
    go false e others = (xs, rw e (ap (λ y. y ∷ xs) (eqb-true x c (left_of (eqb x c) (has c xs) h e))))

pub up_to_last-is : (c : ℕ) (xs : List ℕ) → has c xs ≡ true → up_to_last c xs ≡ before_last c xs ++ c ∷ []
up_to_last-is c [] h = absurd (false≢true h)
up_to_last-is c (x ∷ xs) h = ap (λ b. cond b (x ∷ up_to_last c xs) []) h ∙ go (has c xs) refl (up_to_last-is c xs)
  where
    go : (b : Bool) → has c xs ≡ b → (has c xs ≡ true → up_to_last c xs ≡ before_last c xs ++ c ∷ [])
        → x ∷ up_to_last c xs ≡ cond (has c xs) (x ∷ before_last c xs) [] ++ c ∷ []
    go true e others = rw e (ap (λ l. x ∷ l) (others e))
    go false e others = rw e (ap (λ l. x ∷ l) (up_to_last-none c xs e) ∙ ap (λ y. y ∷ []) (eqb-true x c (left_of (eqb x c) (has c xs) h e)))
