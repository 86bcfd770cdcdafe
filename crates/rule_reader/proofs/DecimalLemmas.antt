-- What is read is a weight or a probability, and each of them is read.
use Rattle.std.proofs.Common.{◌≡◌, ◌≢◌, ◌⊎◌, ℕ, ◌==◌, Bool, true, false, cond, ◌&&◌, List, [], ◌∷◌, ◌++◌, take, drop, Option, Some, None, refl, sym, ap, subst, ◌∙◌, inl, inr}
use Rattle.std.specs.Prelude.{MatchBool, min}
use Rattle.std.specs.List.{list_all, prefix_len}
use Rattle.std.proofs.lemmas.Bool.{eqb-true, and_parts}
use Rattle.std.proofs.lemmas.List.{append-nil, take-append-drop}
use Rattle.std.proofs.lemmas.Option.{same_Some}
use Rattle.vg_base.proofs.LongestRuns.{run_counted, one_run}
use Rattle.vg_base.proofs.Plain.{heads_same}
use Rattle.abnf_lexer.specs.Repeats.{is_digit}
use Rattle.token_forms.specs.Words.{AreWords}
use Rattle.token_forms.proofs.WordLemmas as words
use Rattle.rule_reader.specs.Numbers.{IsDecimal, HasDecimal, IsWeight, IsAtMostOne, IsProbability}
use Rattle.rule_reader.specs.code.Numbers.{digits, behind_digits, dotted, only}

-- ---- the number

decimal_from : (text whole rest behind : List ℕ) → text ≡ whole ++ rest → list_all is_digit whole ≡ true → dotted rest ≡ Some behind → whole ++ behind ≢ [] → IsDecimal text whole behind
decimal_from text whole [] behind e each h some =
    let none : [] ≡ behind = same_Some [] behind h in
    record { each_whole = each; each_behind = subst (λ (b : List ℕ). list_all is_digit b ≡ true) none refl; some = some; written = inr (e ∙ append-nil whole, sym none) }
decimal_from text whole (c ∷ rest) behind e each h some = by_test (c == 46 && list_all is_digit rest) refl h
  where
    by_test : (b : Bool) → (c == 46 && list_all is_digit rest) ≡ b → cond b (Some rest) None ≡ Some behind → IsDecimal text whole behind
    by_test false q k = absurd cc
    by_test true q k =
        let parts = and_parts (c == 46) (list_all is_digit rest) q in
        let same : rest ≡ behind = same_Some rest behind k in
        record {
          each_whole = each;
          each_behind = subst (λ (b : List ℕ). list_all is_digit b ≡ true) same parts.1;
          some = some;
          written = inl (e ∙ (λ i. whole ++ eqb-true c 46 parts.0 i ∷ same i));
        }

pub decimal_is : (text behind : List ℕ) → dotted (behind_digits text) ≡ Some behind → digits text ++ behind ≢ []
    → IsDecimal text (digits text) behind
decimal_is text behind h some =
    decimal_from text (digits text) (behind_digits text) behind (sym (take-append-drop (prefix_len is_digit text) text)) (run_counted is_digit text).each h some

-- the parts of a number are those that are read
record Parted (text whole behind : List ℕ) : Type 0 where
  front : digits text ≡ whole
  rest : dotted (behind_digits text) ≡ Some behind

decimal_parted : (text whole behind : List ℕ) → IsDecimal text whole behind → Parted text whole behind
decimal_parted text whole behind d = by_form d.written
  where
    counted : digits text ++ behind_digits text ≡ text
    counted = take-append-drop (prefix_len is_digit text) text

    by_form : (text ≡ whole ++ 46 ∷ behind) ⊎ ((text ≡ whole) × (behind ≡ [])) → Parted text whole behind
    by_form (inl e) =
        let run = run_counted is_digit text in
        let same = one_run is_digit (digits text) whole (behind_digits text) (46 ∷ behind) run.each run.ends d.each_whole refl (counted ∙ e) in
        record { front = same.0; rest = ap dotted same.1 ∙ ap (λ b. cond b (Some behind) None) d.each_behind }
    by_form (inr e) =
        let run = run_counted is_digit text in
        let same = one_run is_digit (digits text) whole (behind_digits text) [] run.each run.ends d.each_whole refl (counted ∙ (e.0 ∙ sym (append-nil whole))) in
        record { front = same.0; rest = ap dotted same.1 ∙ ap Some (sym e.1) }

pub no_decimal : (text whole behind : List ℕ) → dotted (behind_digits text) ≡ None → IsDecimal text whole behind → ⊥
no_decimal text whole behind h d = let e : Some behind ≡ None = sym (decimal_parted text whole behind d).rest ∙ h in cc

pub no_digit : (text whole behind found : List ℕ) → dotted (behind_digits text) ≡ Some found → digits text ++ found ≡ [] → IsDecimal text whole behind → ⊥
no_digit text whole behind found h none d =
    let p = decimal_parted text whole behind d in
    let same : behind ≡ found = same_Some behind found (sym p.rest ∙ h) in
    d.some ((λ i. sym p.front i ++ same i) ∙ none)

pub one_decimal : (text w1 b1 w2 b2 : List ℕ) → IsDecimal text w1 b1 → IsDecimal text w2 b2 → (w1 ≡ w2) × (b1 ≡ b2)
one_decimal text w1 b1 w2 b2 d e =
    let p = decimal_parted text w1 b1 d in
    let q = decimal_parted text w2 b2 e in
    (sym p.front ∙ q.front, same_Some b1 b2 (sym p.rest ∙ q.rest))

-- ---- the only word of a text

pub one_word : (text word other : List ℕ) → AreWords (word ∷ []) text → AreWords (other ∷ []) text → word ≡ other
one_word text word other h k = heads_same (words.one_list (word ∷ []) (other ∷ []) text h k)

pub only_one : (words : List (List ℕ)) (text word : List ℕ) → only words ≡ Some word → AreWords words text → AreWords (word ∷ []) text
only_one [] text word e h = absurd cc
only_one (w ∷ []) text word e h = subst (λ v. AreWords (v ∷ []) text) (same_Some w word e) h
only_one (w ∷ v ∷ words) text word e h = absurd cc

pub not_only : (words : List (List ℕ)) (text word : List ℕ) → only words ≡ None → AreWords words text → AreWords (word ∷ []) text → ⊥
not_only several text word e h k =
    let same : Some word ≡ None = ap only (words.one_list (word ∷ []) several text k h) ∙ e in cc

-- ---- weights and probabilities

pub no_weight : (text word : List ℕ) → AreWords (word ∷ []) text → ((whole behind : List ℕ) → IsDecimal word whole behind → ⊥) → IsWeight text → ⊥
no_weight text word h none w = none w.0 w.1 (subst (λ v. IsDecimal v w.0 w.1) (one_word text w.2.0 word w.2.1 h) w.2.2)

pub no_number : (text word : List ℕ) → AreWords (word ∷ []) text → ((whole behind : List ℕ) → IsDecimal word whole behind → ⊥) → IsProbability text → ⊥
no_number text word h none p = no_weight text word h none (p.0, p.1, p.2)

-- a number is a probability where it is at most 1
pub chance_decided : (text word whole behind : List ℕ) → AreWords (word ∷ []) text → IsDecimal word whole behind
    → (b : Bool) → MatchBool b (IsAtMostOne whole behind) (IsAtMostOne whole behind → ⊥) → MatchBool b (IsProbability text) (IsProbability text → ⊥)
chance_decided text word whole behind h d true within = (whole, behind, (word, h, d), within)
chance_decided text word whole behind h d false over = λ p.
    let has = p.2 in
    let read : IsDecimal word p.0 p.1 = subst (λ v. IsDecimal v p.0 p.1) (one_word text has.0 word has.1 h) has.2 in
    let same = one_decimal word p.0 p.1 whole behind read d in
    over (subst (λ (w : List ℕ). IsAtMostOne w behind) same.0 (subst (λ (b : List ℕ). IsAtMostOne p.0 b) same.1 p.3))
