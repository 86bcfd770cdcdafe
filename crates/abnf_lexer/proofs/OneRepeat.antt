-- A repeat is read in one way.
use Rattle.std.proofs.Common.{◌≡◌, ℕ, ◌+◌, Bool, true, false, ◌==◌, Option, Some, None, List, [], ◌∷◌, ◌++◌, length, codes, refl, sym, ap, ◌∙◌, arith, append_assoc}
use Rattle.std.specs.List.{list_all}
use Rattle.std.proofs.lemmas.Bool.{and_parts, both_ways}
use Rattle.std.proofs.lemmas.Bool.Decides.{nat_tests}
use Rattle.vg_base.specs.Characters.{is_space}
use Rattle.vg_base.specs.Runs.{begins, ReachesFirst, closing_end}
use Rattle.abnf_lexer.specs.Repeats.{is_digit, Most, Same, Endless, UpTo, IsBlank, IsNumber, IsRange, IsChance, IsRepeat}
use Rattle.vg_base.proofs.LongestRuns.{fronts_same, one_run}
use Rattle.vg_base.proofs.Closings.{found_end}

tail_of : (c : ℕ) (xs ys : List ℕ) → c ∷ xs ≡ c ∷ ys → xs ≡ ys
tail_of c xs ys e = cc

-- ---- which character may follow

space_no_digit : (c : ℕ) → is_space c ≡ true → is_digit c ≡ false
space_no_digit c e = by_case (is_digit c) refl
  where
    by_case : (b : Bool) → is_digit c ≡ b → b ≡ false
    by_case false q = refl
    by_case true q = grind (arith, nat_tests)

digit_no_space : (c : ℕ) → is_digit c ≡ true → is_space c ≡ false
digit_no_space c e = by_case (is_space c) refl
  where
    by_case : (b : Bool) → is_space c ≡ b → b ≡ false
    by_case false q = refl
    by_case true q = absurd (both_ways _ (space_no_digit c q) e)

-- no white space begins a number
pub number_no_space : (number more : List ℕ) → IsNumber number → begins is_space (number ++ more) ≡ false
number_no_space [] more h = absurd (h.some refl)
number_no_space (c ∷ cs) more h = digit_no_space c (and_parts (is_digit c) (list_all is_digit cs) h.each).0

-- a digit begins a number
pub number_digit : (number more : List ℕ) → IsNumber number → begins is_digit (number ++ more) ≡ true
number_digit [] more h = absurd (h.some refl)
number_digit (c ∷ cs) more h = (and_parts (is_digit c) (list_all is_digit cs) h.each).0

-- no digit begins white space and what none begins
pub blank_no_digit : (blank more : List ℕ) → IsBlank blank → begins is_digit more ≡ false → begins is_digit (blank ++ more) ≡ false
blank_no_digit [] more h e = e
blank_no_digit (c ∷ cs) more h e = space_no_digit c (and_parts (is_space c) (list_all is_space cs) h).0

-- the end of the slice, behind a probability
abbrev ended : List ℕ → List ℕ
ended probability = probability ++ 62 ∷ []

chance_begins : (p : ℕ → Bool) (chance : Option (List ℕ)) (probability : List ℕ) → IsChance chance probability → p 62 ≡ false → p 47 ≡ false → begins p (ended probability) ≡ false
chance_begins p None probability h e f = ap (λ (l : List ℕ). begins p (ended l)) h ∙ e
chance_begins p (Some inside) probability h e f = ap (λ (l : List ℕ). begins p (ended l)) h.whole ∙ f

-- nothing of a class begins a range and what none of it begins
pub range_begins : (p : ℕ → Bool) (most : Most) (range more : List ℕ) → IsRange most range → begins p more ≡ false → p 45 ≡ false → begins p (range ++ more) ≡ false
range_begins p Same range more h e f = ap (λ (l : List ℕ). begins p (l ++ more)) h ∙ e
range_begins p Endless range more h e f = ap (λ (l : List ℕ). begins p (l ++ more)) h.whole ∙ f
range_begins p (UpTo number) range more h e f = ap (λ (l : List ℕ). begins p (l ++ more)) h.whole ∙ f

-- ---- one probability

one_inside : (p q x y : List ℕ) → ReachesFirst (codes "/") p → ReachesFirst (codes "/") q → p ++ 47 ∷ x ≡ q ++ 47 ∷ y → p ≡ q
one_inside p q x y h k e =
    let same = some_same (length p + 1) (length q + 1) (sym (found_end (codes "/") p x (omega arith) h) ∙ (ap (closing_end (codes "/")) e ∙ found_end (codes "/") q y (omega arith) k)) in
    (fronts_same p q (47 ∷ x) (47 ∷ y) e (omega arith)).0
  where
    some_same : (m n : ℕ) → Some m ≡ Some n → m ≡ n
    some_same m n e = cc

one_chance : (c d : Option (List ℕ)) (a b : List ℕ) → IsChance c a → IsChance d b → ended a ≡ ended b → c ≡ d
one_chance None None a b h k e = refl
one_chance None (Some q) a b h k e = let f : 62 ∷ [] ≡ 47 ∷ ((q ++ 47 ∷ k.after) ++ 62 ∷ []) = sym (ap ended h) ∙ (e ∙ ap ended k.whole) in cc
one_chance (Some p) None a b h k e = let f : 47 ∷ ((p ++ 47 ∷ h.after) ++ 62 ∷ []) ≡ 62 ∷ [] = sym (ap ended h.whole) ∙ (e ∙ ap ended k) in cc
one_chance (Some p) (Some q) a b h k e =
    let f = tail_of 47 ((p ++ 47 ∷ h.after) ++ 62 ∷ []) ((q ++ 47 ∷ k.after) ++ 62 ∷ []) (sym (ap ended h.whole) ∙ (e ∙ ap ended k.whole)) in
    let g = sym (append_assoc p (47 ∷ h.after) (62 ∷ [])) ∙ (f ∙ append_assoc q (47 ∷ k.after) (62 ∷ [])) in
    ap Some (one_inside p q (h.after ++ 62 ∷ []) (k.after ++ 62 ∷ []) h.first k.first g)

-- ---- one range

pub record Alike (m n : Most) (a b : List ℕ) : Type 0 where
  pub most : m ≡ n
  pub rest : a ≡ b

abbrev hyphen : ℕ → Bool
hyphen c = c == 45

up_to : (before number after more : List ℕ) → (before ++ (number ++ after)) ++ more ≡ before ++ (number ++ (after ++ more))
up_to before number after more = simp append_assoc

module _ (a b : List ℕ) (no_space_a : begins is_space a ≡ false) (no_space_b : begins is_space b ≡ false) (no_digit_a : begins is_digit a ≡ false) (no_digit_b : begins is_digit b ≡ false) (no_hyphen_a : begins hyphen a ≡ false) (no_hyphen_b : begins hyphen b ≡ false) where
  one_range : (m n : Most) (r s : List ℕ) → IsRange m r → IsRange n s → r ++ a ≡ s ++ b → Alike m n a b
  one_range Same Same r s h k e = record { most = refl; rest = sym (ap (λ (l : List ℕ). l ++ a) h) ∙ (e ∙ ap (λ (l : List ℕ). l ++ b) k) }
  one_range Same Endless r s h k e =
      let f : a ≡ 45 ∷ (k.after ++ b) = sym (ap (λ (l : List ℕ). l ++ a) h) ∙ (e ∙ ap (λ (l : List ℕ). l ++ b) k.whole) in
      absurd (both_ways _ no_hyphen_a (ap (begins hyphen) f))
  one_range Same (UpTo y) r s h k e =
      let f : a ≡ 45 ∷ ((k.before ++ (y ++ k.after)) ++ b) = sym (ap (λ (l : List ℕ). l ++ a) h) ∙ (e ∙ ap (λ (l : List ℕ). l ++ b) k.whole) in
      absurd (both_ways _ no_hyphen_a (ap (begins hyphen) f))
  one_range Endless Same r s h k e =
      let f : b ≡ 45 ∷ (h.after ++ a) = sym (ap (λ (l : List ℕ). l ++ b) k) ∙ (sym e ∙ ap (λ (l : List ℕ). l ++ a) h.whole) in
      absurd (both_ways _ no_hyphen_b (ap (begins hyphen) f))
  one_range (UpTo x) Same r s h k e =
      let f : b ≡ 45 ∷ ((h.before ++ (x ++ h.after)) ++ a) = sym (ap (λ (l : List ℕ). l ++ b) k) ∙ (sym e ∙ ap (λ (l : List ℕ). l ++ a) h.whole) in
      absurd (both_ways _ no_hyphen_b (ap (begins hyphen) f))
  one_range Endless Endless r s h k e =
      let f = tail_of 45 (h.after ++ a) (k.after ++ b) (sym (ap (λ (l : List ℕ). l ++ a) h.whole) ∙ (e ∙ ap (λ (l : List ℕ). l ++ b) k.whole)) in
      record { most = refl; rest = (one_run is_space h.after k.after a b h.blank_after no_space_a k.blank_after no_space_b f).1 }
  one_range Endless (UpTo y) r s h k e =
      let f = tail_of 45 (h.after ++ a) ((k.before ++ (y ++ k.after)) ++ b) (sym (ap (λ (l : List ℕ). l ++ a) h.whole) ∙ (e ∙ ap (λ (l : List ℕ). l ++ b) k.whole)) in
      let g = one_run is_space h.after k.before a (y ++ (k.after ++ b)) h.blank_after no_space_a k.blank_before (number_no_space y (k.after ++ b) k.is_number) (f ∙ up_to k.before y k.after b) in
      absurd (both_ways _ no_digit_a (ap (begins is_digit) g.1 ∙ number_digit y (k.after ++ b) k.is_number))
  one_range (UpTo x) Endless r s h k e =
      let f = tail_of 45 ((h.before ++ (x ++ h.after)) ++ a) (k.after ++ b) (sym (ap (λ (l : List ℕ). l ++ a) h.whole) ∙ (e ∙ ap (λ (l : List ℕ). l ++ b) k.whole)) in
      let g = one_run is_space h.before k.after (x ++ (h.after ++ a)) b h.blank_before (number_no_space x (h.after ++ a) h.is_number) k.blank_after no_space_b (sym (up_to h.before x h.after a) ∙ f) in
      absurd (both_ways _ no_digit_b (ap (begins is_digit) (sym g.1) ∙ number_digit x (h.after ++ a) h.is_number))
  one_range (UpTo x) (UpTo y) r s h k e =
      let f = tail_of 45 ((h.before ++ (x ++ h.after)) ++ a) ((k.before ++ (y ++ k.after)) ++ b) (sym (ap (λ (l : List ℕ). l ++ a) h.whole) ∙ (e ∙ ap (λ (l : List ℕ). l ++ b) k.whole)) in
      let g = one_run is_space h.before k.before (x ++ (h.after ++ a)) (y ++ (k.after ++ b)) h.blank_before (number_no_space x (h.after ++ a) h.is_number) k.blank_before (number_no_space y (k.after ++ b) k.is_number)
      (sym (up_to h.before x h.after a) ∙ (f ∙ up_to k.before y k.after b)) in
      let n = one_run is_digit x y (h.after ++ a) (k.after ++ b) h.is_number.each (blank_no_digit h.after a h.blank_after no_digit_a) k.is_number.each (blank_no_digit k.after b k.blank_after no_digit_b) g.1 in
      record { most = ap UpTo n.0; rest = (one_run is_space h.after k.after a b h.blank_after no_space_a k.blank_after no_space_b n.1).1 }

-- ---- one repeat

pub one_repeat : (slice least other : List ℕ) (most most' : Most) (chance chance' : Option (List ℕ)) → IsRepeat slice least most chance → IsRepeat slice other most' chance'
    → (least ≡ other) × (most ≡ most') × (chance ≡ chance')
one_repeat slice least other most most' chance chance' h k =
    let a : List ℕ = ended h.probability in
    let b : List ℕ = ended k.probability in
    let chance_a = chance_begins is_digit chance h.probability h.is_chance refl refl in
    let chance_b = chance_begins is_digit chance' k.probability k.is_chance refl refl in
    let space_a = chance_begins is_space chance h.probability h.is_chance refl refl in
    let space_b = chance_begins is_space chance' k.probability k.is_chance refl refl in
    let hyphen_a = chance_begins hyphen chance h.probability h.is_chance refl refl in
    let hyphen_b = chance_begins hyphen chance' k.probability k.is_chance refl refl in
    let whole = tail_of 60 (h.before ++ (least ++ (h.after ++ (h.range ++ a)))) (k.before ++ (other ++ (k.after ++ (k.range ++ b)))) (sym h.whole ∙ k.whole) in
    let one = one_run is_space h.before k.before (least ++ (h.after ++ (h.range ++ a))) (other ++ (k.after ++ (k.range ++ b))) h.blank_before (number_no_space least (h.after ++ (h.range ++ a)) h.is_number)
    k.blank_before (number_no_space other (k.after ++ (k.range ++ b)) k.is_number) whole in
    let two = one_run is_digit least other (h.after ++ (h.range ++ a)) (k.after ++ (k.range ++ b)) h.is_number.each (blank_no_digit h.after (h.range ++ a) h.blank_after (range_begins is_digit most h.range a h.is_range chance_a refl))
    k.is_number.each (blank_no_digit k.after (k.range ++ b) k.blank_after (range_begins is_digit most' k.range b k.is_range chance_b refl)) one.1 in
    let three = one_run is_space h.after k.after (h.range ++ a) (k.range ++ b) h.blank_after (range_begins is_space most h.range a h.is_range space_a refl) k.blank_after (range_begins is_space most' k.range b k.is_range space_b refl) two.1 in
    let four = one_range a b space_a space_b chance_a chance_b hyphen_a hyphen_b most most' h.range k.range h.is_range k.is_range three.1 in
    (two.0, four.most, one_chance chance chance' h.probability k.probability h.is_chance k.is_chance four.rest)
