-- The value of decimal digits, read from the left.
use Rattle.std.proofs.Common.{◌≡◌, ℕ, pos, cond, false, Some, None, ◌+◌, ◌*◌, ◌<◌, ◌≤◌, List, [], ◌∷◌, length, drop, get_or, sym, ap, ◌∙◌, arith}
use Rattle.std.specs.Prelude.{fold, nat_le, if◌then◌else◌}
use Rattle.std.proofs.lemmas.Bool.Decides.{nat_tests}
use Rattle.std.proofs.lemmas.List.{at_drop_more}
use Rattle.script_reader.specs.Lexemes.{digit_of, number_value, greatest}
use Rattle.script_reader.specs.code.Front.{number_of}

abbrev pub with_digit : ℕ → ℕ → ℕ
with_digit n c = n * 10 + digit_of c

abbrev pub value_on : ℕ → List ℕ → ℕ
value_on n digits = fold with_digit n digits

-- the digits so far, and the rest
abbrev pub ValueSoFar : List ℕ → ℕ → ℕ → Type 0
ValueSoFar digits i n = value_on n (drop i digits) ≡ number_value digits

pub value_more : (digits : List ℕ) (i n c : ℕ) → i < length digits → c ≡ get_or digits i c → ValueSoFar digits i n → ValueSoFar digits (i + 1) (with_digit n c)
value_more digits i n c h e q =
    ap (λ d. value_on (with_digit n d) (drop (i + 1) digits)) e ∙ sym (at_drop_more (value_on n) digits i c h) ∙ q

-- more digits never make less
pub value_rises : (digits : List ℕ) (n : ℕ) → n ≤ value_on n digits
value_rises [] n = omega arith
value_rises (c ∷ digits) n = le_two n (with_digit n c) (value_on (with_digit n c) digits) (times n (digit_of c)) (value_rises digits (with_digit n c))
  where
    le_two : (a b d : ℕ) → a ≤ b → b ≤ d → a ≤ d
    le_two a b d h j = omega arith

    times : (n d : ℕ) → n ≤ n * 10 + d
    times n d = omega arith

over_none : (n : ℕ) → greatest < n → None ≡ (if nat_le n greatest then Some (pos n) else None)
over_none n h = ap (λ b. cond b (Some (pos n)) None) (not_within n greatest h)
  where
    not_within : (n m : ℕ) → m < n → false ≡ nat_le n m
    not_within n m h = grind (arith, nat_tests)

-- a front that is over the greatest number already
pub too_great : (digits : List ℕ) (i n c d : ℕ) → i < length digits → c ≡ get_or digits i c → ValueSoFar digits i n → d ≡ digit_of c → greatest < n * 10 + d → None ≡ number_of digits
too_great digits i n c d h e q v g =
    over_none (number_value digits) (further (n * 10 + d) (with_digit n c) (value_on (with_digit n c) (drop (i + 1) digits)) (number_value digits) g
    (ap (λ k. n * 10 + k) v) (value_rises (drop (i + 1) digits) (with_digit n c)) (value_more digits i n c h e q))
  where
    further : (a b d m : ℕ) → greatest < a → a ≡ b → b ≤ d → d ≡ m → greatest < m
    further a b d m h e r q = omega arith
