-- What is added up no further than a limit is the number, cut there; and which of two numbers is greater, digit by digit.
use Rattle.std.proofs.Common.{◌≡◌, ◌⊎◌, inl, inr, ℕ, ◌+◌, ◌*◌, ◌-◌, ◌<◌, ◌≤◌, true, List, [], ◌∷◌, length, take, drop, refl, sym, ap, ◌∙◌, arith, length-drop}
use Rattle.std.specs.Prelude.{min, fold}
use Rattle.std.specs.List.{list_all}
use Rattle.std.specs.Ordering.{nat_cmp, ordering_then}
use Rattle.std.specs.declared.cmp.Ordering.{Ordering}
use Rattle.std.specs.declared.cmp.Ordering.TheVariants.{Less, Equal, Greater}
use Rattle.std.proofs.lemmas.Bool.{and_parts, cases_lt}
use Rattle.std.proofs.lemmas.List.{take-append-drop}
use Rattle.std.proofs.lemmas.List.Folds.{list_all-append}
use Rattle.std.proofs.lemmas.List.Sums.{fold-append}
use Rattle.std.proofs.lemmas.Bool.Decides.{nat_tests}
use Rattle.abnf_lexer.specs.Repeats.{is_digit}
use Rattle.rule_reader.specs.Numbers.{number_of}
use Rattle.rule_reader.specs.code.Numbers.{capped, compared}

abbrev add : ℕ → ℕ → ℕ
add number digit = number * 10 + (digit - 48)

step : (a b e : ℕ) → a ≡ min b 65536 → min (a * 10 + e) 65536 ≡ min (b * 10 + e) 65536
step a b e h = grind (arith, nat_tests)

up_to : (digits : List ℕ) (a b : ℕ) → a ≡ min b 65536 → capped a digits ≡ min (fold add b digits) 65536
up_to [] a b h = h
up_to (digit ∷ digits) a b h = up_to digits (min (add a digit) 65536) (add b digit) (step a b (digit - 48) h)

pub capped_number : (digits : List ℕ) → capped 0 digits ≡ min (number_of digits) 65536
capped_number digits = up_to digits 0 0 refl

-- ---- which of two numbers is greater

digit_value : (d : ℕ) → is_digit d ≡ true → (48 ≤ d) × (d ≤ 57)
digit_value d h = grind (arith, nat_tests)

cmp_step : (m n x y : ℕ) → (48 ≤ x) × (x ≤ 57) → (48 ≤ y) × (y ≤ 57) → nat_cmp (add m x) (add n y) ≡ ordering_then (nat_cmp m n) (nat_cmp x y)
cmp_step m n x y h k = grind (arith, nat_tests)

more_digits : (order : Ordering) (m n : ℕ) (xs ys : List ℕ) → length xs ≡ length ys → list_all is_digit xs ≡ true → list_all is_digit ys ≡ true → order ≡ nat_cmp m n
    → compared order xs ys ≡ nat_cmp (fold add m xs) (fold add n ys)
more_digits order m n [] [] e h k o = o
more_digits order m n [] (y ∷ ys) e h k o = absurd (omega arith)
more_digits order m n (x ∷ xs) [] e h k o = absurd (omega arith)
more_digits order m n (x ∷ xs) (y ∷ ys) e h k o =
    let p = and_parts (is_digit x) (list_all is_digit xs) h in
    let q = and_parts (is_digit y) (list_all is_digit ys) k in
    more_digits (ordering_then order (nat_cmp x y)) (add m x) (add n y) xs ys (omega arith) p.1 q.1
    (ap (λ z. ordering_then z (nat_cmp x y)) o ∙ sym (cmp_step m n x y (digit_value x p.0) (digit_value y q.0)))

-- the numbers of what one has more are compared as they are cut, since one of them is 0
cut_cmp : (m n : ℕ) → (m ≡ 0) ⊎ (n ≡ 0) → nat_cmp (min m 65536) (min n 65536) ≡ nat_cmp m n
cut_cmp m n (inl e) = grind (arith, nat_tests)
cut_cmp m n (inr e) = grind (arith, nat_tests)

all_parts : (k : ℕ) (xs : List ℕ) → list_all is_digit xs ≡ true → list_all is_digit (drop k xs) ≡ true
all_parts k xs h =
    (and_parts (list_all is_digit (take k xs)) (list_all is_digit (drop k xs)) (sym (list_all-append is_digit (take k xs) (drop k xs)) ∙ (ap (list_all is_digit) (take-append-drop k xs) ∙ h))).1

number_parts : (k : ℕ) (xs : List ℕ) → fold add (number_of (take k xs)) (drop k xs) ≡ number_of xs
number_parts k xs = sym (fold-append add 0 (take k xs) (drop k xs)) ∙ ap number_of (take-append-drop k xs)

pub compared_whole : (one other : List ℕ) → list_all is_digit one ≡ true → list_all is_digit other ≡ true
    → compared (nat_cmp (min (number_of (take (length one - length other) one)) 65536) (min (number_of (take (length other - length one) other)) 65536))
    (drop (length one - length other) one) (drop (length other - length one) other)
    ≡ nat_cmp (number_of one) (number_of other)
compared_whole one other h k =
    let a = length one - length other in
    let b = length other - length one in
    let none : (number_of (take a one) ≡ 0) ⊎ (number_of (take b other) ≡ 0) = by_order (cases_lt (length one) (length other)) in
    more_digits _ (number_of (take a one)) (number_of (take b other)) (drop a one) (drop b other) (omega (arith, length-drop a one, length-drop b other)) (all_parts a one h) (all_parts b other k)
    (cut_cmp (number_of (take a one)) (number_of (take b other)) none)
    ∙ (λ i. nat_cmp (number_parts a one i) (number_parts b other i))
  where
    by_order : (length one < length other) ⊎ (length other ≤ length one) → (number_of (take (length one - length other) one) ≡ 0) ⊎ (number_of (take (length other - length one) other) ≡ 0)
    by_order (inl le) = let e : length one - length other ≡ 0 = omega arith in inl (ap (λ n. number_of (take n one)) e)
    by_order (inr le) = let e : length other - length one ≡ 0 = omega arith in inr (ap (λ n. number_of (take n other)) e)
