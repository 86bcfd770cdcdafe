-- Codes of languages: what is read as one has the form, and what has the form is read.
use Rattle.std.proofs.Common.{◌≡◌, ℕ, suc, ◌+◌, ◌≤◌, Bool, true, false, cond, ◌&&◌, ◌==◌, List, [], ◌∷◌, ◌++◌, length, refl, sym, ap, subst, ◌∙◌, arith}
use Rattle.std.specs.List.{list_all, flat_map, AllByRecursion}
use Rattle.std.proofs.lemmas.Bool.{and_parts, eqb-true}
use Rattle.std.proofs.lemmas.Bool.Decides.{nat_tests}
use Rattle.abnf_lexer.specs.Classes.{is_letter_or_digit}
use Rattle.abnf_lexer.specs.Codes.{IsSubtag, IsCode}
use Rattle.abnf_lexer.specs.code.Front.{is_allowed, is_part, goes_on, is_code}

part_bounds : (len : ℕ) → is_part len ≡ true → (1 ≤ len) × (len ≤ 8)
part_bounds len e = (grind (arith, nat_tests), grind (arith, nat_tests))

bounds_part : (len : ℕ) → 1 ≤ len → len ≤ 8 → is_part len ≡ true
bounds_part len some short = grind (arith, nat_tests)

abbrev parts : List (List ℕ) → List ℕ
parts = flat_map (λ tag. 45 ∷ tag)

-- the characters are the end of a part that has so many already, and further parts
record Continues (first : Bool) (len : ℕ) (text : List ℕ) : Type 0 where
  head : List ℕ
  others : List (List ℕ)
  whole : text ≡ head ++ parts others
  each : list_all (is_allowed first) head ≡ true
  some : 1 ≤ len + length head
  short : len + length head ≤ 8
  rest : AllByRecursion (IsSubtag is_letter_or_digit) others

continues : (first : Bool) (len : ℕ) (text : List ℕ) → goes_on first len text ≡ true → Continues first len text
continues first len [] e = let bounds = part_bounds len e in record {
  head = [];
  others = [];
  whole = refl;
  each = refl;
  some = let some = bounds.0 in omega arith;
  short = let short = bounds.1 in omega arith;
  rest = tt;
}
continues first len (c ∷ cs) e = by_test (c == 45) refl e (continues false 0 cs) (continues first (len + 1) cs)
  where
    part : c ≡ 45 → is_part len ≡ true → Continues false 0 cs → Continues first len (c ∷ cs)
    part c_is e h = let bounds = part_bounds len e in record {
      head = [];
      others = h.head ∷ h.others;
      whole = (λ i. c_is i ∷ h.whole i);
      each = refl;
      some = let some = bounds.0 in omega arith;
      short = let short = bounds.1 in omega arith;
      rest = (record { each = h.each; some = let some = h.some in omega arith; short = let short = h.short in omega arith }, h.rest);
    }

    longer : is_allowed first c ≡ true → Continues first (len + 1) cs → Continues first len (c ∷ cs)
    longer e h = record {
      head = c ∷ h.head;
      others = h.others;
      whole = ap (λ (l : List ℕ). c ∷ l) h.whole;
      each = ap (λ b. b && list_all (is_allowed first) h.head) e ∙ h.each;
      some = omega arith;
      short = let short = h.short in omega arith;
      rest = h.rest;
    }

    by_test : (b : Bool) → (c == 45) ≡ b → cond b (is_part len && goes_on false 0 cs) (is_allowed first c && goes_on first (len + 1) cs) ≡ true
        → (goes_on false 0 cs ≡ true → Continues false 0 cs) → (goes_on first (len + 1) cs ≡ true → Continues first (len + 1) cs) → Continues first len (c ∷ cs)
    by_test true q e f g = let both = and_parts (is_part len) (goes_on false 0 cs) e in part (eqb-true c 45 q) both.0 (f both.1)
    by_test false q e f g = let both = and_parts (is_allowed first c) (goes_on first (len + 1) cs) e in longer both.0 (g both.1)

pub code_form : (code : List ℕ) → is_code code ≡ true → IsCode code
code_form code e =
    let h = continues true 0 code e in
    record {
      first = h.head;
      others = h.others;
      whole = h.whole;
      letters = record { each = h.each; some = let some = h.some in omega arith; short = let short = h.short in omega arith };
      each = h.rest;
    }

-- ---- what has the form is read

no_hyphen : (first : Bool) (c : ℕ) → is_allowed first c ≡ true → (c == 45) ≡ false
no_hyphen first c e = by_test (c == 45) refl
  where
    at_hyphen : (first : Bool) → is_allowed first 45 ≡ true → ⊥
    at_hyphen true h = cc
    at_hyphen false h = cc

    by_test : (b : Bool) → (c == 45) ≡ b → b ≡ false
    by_test false q = refl
    by_test true q = absurd (at_hyphen first (ap (is_allowed first) (sym (eqb-true c 45 q)) ∙ e))

reads_head : (first : Bool) (len : ℕ) (head tail : List ℕ) → list_all (is_allowed first) head ≡ true → goes_on first (len + length head) tail ≡ true → goes_on first len (head ++ tail) ≡ true
reads_head first len [] tail each h = subst (λ n. goes_on first n tail ≡ true) (let e : len + 0 ≡ len = omega arith in e) h
reads_head first len (c ∷ head) tail each h =
    let both = and_parts (is_allowed first c) (list_all (is_allowed first) head) each in
    let longer : len + suc (length head) ≡ (len + 1) + length head = omega arith in
    let more = reads_head first (len + 1) head tail both.1 (subst (λ n. goes_on first n tail ≡ true) longer h) in
    ap (λ b. cond b (is_part len && goes_on false 0 (head ++ tail)) (is_allowed first c && goes_on first (len + 1) (head ++ tail))) (no_hyphen first c both.0)
    ∙ (λ i. both.0 i && more i)

reads_parts : (first : Bool) (len : ℕ) (others : List (List ℕ)) → is_part len ≡ true → AllByRecursion (IsSubtag is_letter_or_digit) others → goes_on first len (parts others) ≡ true
reads_parts first len [] e h = e
reads_parts first len (tag ∷ others) e h =
    let whole : is_part (0 + length tag) ≡ true = bounds_part (0 + length tag) (omega (arith, h.0.some)) (omega (arith, h.0.short)) in
    let more = reads_head false 0 tag (parts others) h.0.each (reads_parts false (0 + length tag) others whole h.1) in
    (λ i. e i && more i)

pub code_read : (code : List ℕ) → IsCode code → is_code code ≡ true
code_read code h =
    let whole : is_part (0 + length h.first) ≡ true = bounds_part (0 + length h.first) (omega (arith, h.letters.some)) (omega (arith, h.letters.short)) in
    ap is_code h.whole ∙ reads_head true 0 h.first (parts h.others) h.letters.each (reads_parts true (0 + length h.first) h.others whole h.each)
