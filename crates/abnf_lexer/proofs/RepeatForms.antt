-- Repeats: what is read is a repeat (`repeat_of`), and each repeat is read, as it is written (`repeat_read`).
use Rattle.std.proofs.Common.{◌≡◌, ℕ, Bool, true, false, cond, ◌==◌, Option, Some, None, List, [], ◌∷◌, ◌++◌, length, take, drop, codes, refl, sym, ap, subst, ◌∙◌, arith, append_assoc}
use Rattle.std.specs.List.{prefix_len, list_all}
use Rattle.std.proofs.lemmas.Bool.{eqb-true, both_ways}
use Rattle.std.proofs.lemmas.List.{take_at, drop_at, append-nil, append_cancel_right, take-append-drop}
use Rattle.std.proofs.lemmas.Option.{none-some, same_Some}
use Rattle.vg_base.specs.Characters.{is_space}
use Rattle.vg_base.specs.Runs.{begins}
use Rattle.vg_base.proofs.LongestRuns.{run_counted, run_len}
use Rattle.abnf_lexer.specs.Classes.{is_empty}
use Rattle.abnf_lexer.specs.Repeats.{is_digit, Most, Same, Endless, UpTo, IsBlank, IsNumber, IsRange, IsChance, IsRepeat, Numbers}
use Rattle.abnf_lexer.specs.code.Repeats.{Parted, between, behind_spaces, digits, behind_digits, Ranged, behind_hyphen, range, chance_in, chance, with_chance, with_range, numbers, in_angles, repeat}
use Rattle.abnf_lexer.proofs.Parting.{Stands, between_of, between_found}
use Rattle.abnf_lexer.proofs.OneRepeat.{number_no_space, number_digit, blank_no_digit, range_begins}

-- ---- white space and digits

-- the white space at the front
abbrev spaces : List ℕ → List ℕ
spaces text = take (prefix_len is_space text) text

spaces_then : (text : List ℕ) → text ≡ spaces text ++ behind_spaces text
spaces_then text = sym (take-append-drop (prefix_len is_space text) text)

spaces_blank : (text : List ℕ) → IsBlank (spaces text)
spaces_blank text = (run_counted is_space text).each

behind_blank : (blank rest : List ℕ) → IsBlank blank → begins is_space rest ≡ false → behind_spaces (blank ++ rest) ≡ rest
behind_blank blank rest e h = drop_at blank rest (prefix_len is_space (blank ++ rest)) (sym (run_len is_space blank rest (record { each = e; ends = h })))

-- digits where one begins are a number
digits_number : (text : List ℕ) → begins is_digit text ≡ true → IsNumber (digits text)
digits_number text e = record { each = (run_counted is_digit text).each; some = λ none. no_digits text none e }
  where
    no_digits : (text : List ℕ) → digits text ≡ [] → begins is_digit text ≡ true → ⊥
    no_digits text none e =
        let left : drop (prefix_len is_digit text) text ≡ text = ap (λ (l : List ℕ). l ++ drop (prefix_len is_digit text) text) (sym none) ∙ take-append-drop (prefix_len is_digit text) text in
        both_ways _ (ap (begins is_digit) (sym left) ∙ (run_counted is_digit text).ends) e

digits_then : (text : List ℕ) → text ≡ digits text ++ (spaces (drop (prefix_len is_digit text) text) ++ behind_digits text)
digits_then text = sym (take-append-drop (prefix_len is_digit text) text) ∙ ap (λ (l : List ℕ). digits text ++ l) (spaces_then (drop (prefix_len is_digit text) text))

-- a number, white space, and what no digit and no white space begins
module _ (number blank rest : List ℕ) (is_number : IsNumber number) (is_blank : IsBlank blank) (no_digit : begins is_digit rest ≡ false) (no_space : begins is_space rest ≡ false) where
  len_is : prefix_len is_digit (number ++ (blank ++ rest)) ≡ length number
  len_is = run_len is_digit number (blank ++ rest) (record { each = is_number.each; ends = blank_no_digit blank rest is_blank no_digit })

  digits_are : digits (number ++ (blank ++ rest)) ≡ number
  digits_are = take_at number (blank ++ rest) (prefix_len is_digit (number ++ (blank ++ rest))) (sym len_is)

  behind_are : behind_digits (number ++ (blank ++ rest)) ≡ rest
  behind_are = ap behind_spaces (drop_at number (blank ++ rest) (prefix_len is_digit (number ++ (blank ++ rest))) (sym len_is)) ∙ behind_blank blank rest is_blank no_space

-- ---- the range

hyphen_then : (text : List ℕ) → begins (λ c. c == 45) text ≡ true → text ≡ 45 ∷ drop 1 text
hyphen_then [] e = absurd (both_ways _ refl e)
hyphen_then (c ∷ cs) e = ap (λ d. d ∷ cs) (eqb-true c 45 e)

-- a range and what is left
record RangeOf (text : List ℕ) (r : Ranged) : Type 0 where
  front : List ℕ
  whole : text ≡ front ++ r.rest
  is_range : IsRange r.most front

behind_hyphen_of : (text more : List ℕ) → text ≡ 45 ∷ more → RangeOf text (behind_hyphen (behind_spaces more))
behind_hyphen_of text more e = by_digit (begins is_digit (behind_spaces more)) refl
  where
    by_digit : (b : Bool) → begins is_digit (behind_spaces more) ≡ b
        → RangeOf text (cond b (record { most = UpTo (digits (behind_spaces more)); rest = behind_digits (behind_spaces more) }) (record { most = Endless; rest = behind_spaces more }))
    by_digit false q = record { front = 45 ∷ spaces more; whole = e ∙ ap (λ (l : List ℕ). 45 ∷ l) (spaces_then more); is_range = record { after = spaces more; whole = refl; blank_after = spaces_blank more } }
    by_digit true q =
        let on : List ℕ = behind_spaces more in
        let after : List ℕ = spaces (drop (prefix_len is_digit on) on) in
        record {
          front = 45 ∷ (spaces more ++ (digits on ++ after));
          whole = e ∙ ap (λ (l : List ℕ). 45 ∷ l) (spaces_then more ∙ (ap (λ (l : List ℕ). spaces more ++ l) (digits_then on ∙ sym (append_assoc (digits on) after (behind_digits on))) ∙ sym (append_assoc (spaces more) (digits on ++ after) (behind_digits on))));
          is_range = record { before = spaces more; after = after; whole = refl; is_number = digits_number on q; blank_before = spaces_blank more; blank_after = spaces_blank (drop (prefix_len is_digit on) on) };
        }

range_of : (text : List ℕ) → RangeOf text (range text)
range_of text = by_hyphen (begins (λ c. c == 45) text) refl
  where
    by_hyphen : (b : Bool) → begins (λ c. c == 45) text ≡ b → RangeOf text (cond b (behind_hyphen (behind_spaces (drop 1 text))) (record { most = Same; rest = text }))
    by_hyphen true q = behind_hyphen_of text (drop 1 text) (hyphen_then text q)
    by_hyphen false q = record { front = []; whole = refl; is_range = refl }

-- what may follow a range
record IsBehind (rest : List ℕ) : Type 0 where
  no_space : begins is_space rest ≡ false
  no_digit : begins is_digit rest ≡ false
  no_hyphen : begins (λ c. c == 45) rest ≡ false

range_read : (most : Most) (front rest : List ℕ) → IsRange most front → IsBehind rest → range (front ++ rest) ≡ record { most = most; rest = rest }
range_read Same front rest h b =
    ap (λ (l : List ℕ). range (l ++ rest)) h ∙ ap (λ t. cond t (behind_hyphen (behind_spaces (drop 1 rest))) (record { most = Same; rest = rest })) b.no_hyphen
range_read Endless front rest h b =
    ap (λ (l : List ℕ). range (l ++ rest)) h.whole
    ∙ (ap behind_hyphen (behind_blank h.after rest h.blank_after b.no_space)
    ∙ ap (λ t. cond t (record { most = UpTo (digits rest); rest = behind_digits rest }) (record { most = Endless; rest = rest })) b.no_digit)
range_read (UpTo number) front rest h b =
    let on : List ℕ = number ++ (h.after ++ rest) in
    ap (λ (l : List ℕ). range (l ++ rest)) h.whole
    ∙ (ap (λ (l : List ℕ). behind_hyphen (behind_spaces l)) (append_assoc h.before (number ++ h.after) rest ∙ ap (λ (l : List ℕ). h.before ++ l) (append_assoc number h.after rest))
    ∙ (ap behind_hyphen (behind_blank h.before on h.blank_before (number_no_space number (h.after ++ rest) h.is_number))
    ∙ (ap (λ t. cond t (record { most = UpTo (digits on); rest = behind_digits on }) (record { most = Endless; rest = on })) (number_digit number (h.after ++ rest) h.is_number)
    ∙ (λ i. record { most = UpTo (digits_are number h.after rest h.is_number h.blank_after b.no_digit b.no_space i); rest = behind_are number h.after rest h.is_number h.blank_after b.no_digit b.no_space i }))))

-- ---- the probability

empty_is : (xs : List ℕ) → is_empty xs ≡ true → xs ≡ []
empty_is [] e = refl
empty_is (x ∷ xs) e = absurd (both_ways _ refl e)

all_blank : (text : List ℕ) → is_empty (behind_spaces text) ≡ true → IsBlank text
all_blank text e =
    let whole : text ≡ spaces text = spaces_then text ∙ (ap (λ (l : List ℕ). spaces text ++ l) (empty_is (behind_spaces text) e) ∙ append-nil (spaces text)) in
    ap (list_all is_space) whole ∙ spaces_blank text

none_behind : (blank : List ℕ) → IsBlank blank → behind_spaces blank ≡ []
none_behind blank h = ap behind_spaces (sym (append-nil blank)) ∙ behind_blank blank [] h refl

chance_in_of : (text : List ℕ) (o : Option Parted) (c : Option (List ℕ)) → between (codes "/") (codes "/") text ≡ o → chance_in o ≡ Some c → IsChance c text
chance_in_of text None c e h = absurd (none-some c h)
chance_in_of text (Some p) c e h = by_blank (is_empty (behind_spaces p.behind)) refl h
  where
    by_blank : (b : Bool) → is_empty (behind_spaces p.behind) ≡ b → cond b (Some (Some p.inside)) None ≡ Some c → IsChance c text
    by_blank false q r = absurd (none-some c r)
    by_blank true q r =
        let s = between_of (codes "/") (codes "/") text p e in
        subst (λ (d : Option (List ℕ)). IsChance d text) (same_Some (Some p.inside) c r) (record { after = p.behind; whole = s.whole; first = s.first; blank_after = all_blank p.behind q })

chance_of : (text : List ℕ) (c : Option (List ℕ)) → chance text ≡ Some c → IsChance c text
chance_of [] c h = subst (λ (d : Option (List ℕ)). IsChance d []) (same_Some None c h) refl
chance_of (x ∷ xs) c h = chance_in_of (x ∷ xs) (between (codes "/") (codes "/") (x ∷ xs)) c refl h

chance_read : (c : Option (List ℕ)) (text : List ℕ) → IsChance c text → chance text ≡ Some c
chance_read None text h = ap chance h
chance_read (Some inside) text h =
    let p : Parted = record { inside = inside; behind = h.after } in
    let found : between (codes "/") (codes "/") text ≡ Some p = between_found (codes "/") (codes "/") text p (omega arith) (record { whole = h.whole; first = h.first }) in
    ap chance h.whole ∙ (ap (λ (l : List ℕ). chance_in (between (codes "/") (codes "/") l)) (sym h.whole)
    ∙ (ap chance_in found ∙ ap (λ (l : List ℕ). cond (is_empty l) (Some (Some inside)) None) (none_behind h.after h.blank_after)))

chance_behind : (c : Option (List ℕ)) (text : List ℕ) → IsChance c text → IsBehind text
chance_behind None text h = record { no_space = ap (begins is_space) h; no_digit = ap (begins is_digit) h; no_hyphen = ap (begins (λ x. x == 45)) h }
chance_behind (Some inside) text h = record { no_space = ap (begins is_space) h.whole; no_digit = ap (begins is_digit) h.whole; no_hyphen = ap (begins (λ x. x == 45)) h.whole }

-- ---- the numbers

-- the inside of the angles, behind white space
record NumbersOf (text : List ℕ) (r : Numbers) : Type 0 where
  after : List ℕ
  range : List ℕ
  probability : List ℕ
  whole : text ≡ r.least ++ (after ++ (range ++ probability))
  is_number : IsNumber r.least
  blank_after : IsBlank after
  is_range : IsRange r.most range
  is_chance : IsChance r.chance probability

numbers_of : (text : List ℕ) (r : Numbers) → numbers text ≡ Some r → NumbersOf text r
numbers_of text r e = by_digit (begins is_digit text) refl e
  where
    by_chance : begins is_digit text ≡ true → (o : Option (Option (List ℕ))) → chance (range (behind_digits text)).rest ≡ o → with_chance (digits text) (range (behind_digits text)).most o ≡ Some r → NumbersOf text r
    by_chance q None h k = absurd (none-some r k)
    by_chance q (Some c) h k =
        let found : Numbers = record { least = digits text; most = (range (behind_digits text)).most; chance = c } in
        let part = range_of (behind_digits text) in
        subst (NumbersOf text) (same_Some found r k)
        (record {
          after = spaces (drop (prefix_len is_digit text) text);
          range = part.front;
          probability = (range (behind_digits text)).rest;
          whole = digits_then text ∙ ap (λ (l : List ℕ). digits text ++ (spaces (drop (prefix_len is_digit text) text) ++ l)) part.whole;
          is_number = digits_number text q;
          blank_after = spaces_blank (drop (prefix_len is_digit text) text);
          is_range = part.is_range;
          is_chance = chance_of (range (behind_digits text)).rest c h;
        })

    by_digit : (b : Bool) → begins is_digit text ≡ b → cond b (with_range (digits text) (range (behind_digits text))) None ≡ Some r → NumbersOf text r
    by_digit false q k = absurd (none-some r k)
    by_digit true q k = by_chance q (chance (range (behind_digits text)).rest) refl k

numbers_read : (text : List ℕ) (r : Numbers) → NumbersOf text r → numbers text ≡ Some r
numbers_read text r h =
    let rest : List ℕ = h.range ++ h.probability in
    let on : List ℕ = r.least ++ (h.after ++ rest) in
    let behind = chance_behind r.chance h.probability h.is_chance in
    let no_space : begins is_space rest ≡ false = range_begins is_space r.most h.range h.probability h.is_range behind.no_space refl in
    let no_digit : begins is_digit rest ≡ false = range_begins is_digit r.most h.range h.probability h.is_range behind.no_digit refl in
    let least : digits on ≡ r.least = digits_are r.least h.after rest h.is_number h.blank_after no_digit no_space in
    let left : behind_digits on ≡ rest = behind_are r.least h.after rest h.is_number h.blank_after no_digit no_space in
    ap numbers h.whole
    ∙ (ap (λ t. cond t (with_range (digits on) (range (behind_digits on))) None) (number_digit r.least (h.after ++ rest) h.is_number)
    ∙ ((λ i. with_range (least i) (range (left i)))
    ∙ (ap (with_range r.least) (range_read r.most h.range h.probability h.is_range behind)
    ∙ ap (with_chance r.least r.most) (chance_read r.chance h.probability h.is_chance))))

-- ---- the slice

angle_whole : (before least after range probability : List ℕ) → 60 ∷ (before ++ (least ++ (after ++ (range ++ (probability ++ 62 ∷ []))))) ≡ 60 ∷ ((before ++ (least ++ (after ++ (range ++ probability)))) ++ 62 ∷ [])
angle_whole before least after range probability = sym (simp append_assoc)

pub repeat_of : (slice : List ℕ) (r : Numbers) → repeat slice ≡ Some r → IsRepeat slice r.least r.most r.chance
repeat_of slice r e = by_angle (between (codes "<") (codes ">") slice) refl e
  where
    by_behind : (p : Parted) → Stands (codes "<") (codes ">") slice p → (b : Bool) → is_empty p.behind ≡ b → cond b (numbers (behind_spaces p.inside)) None ≡ Some r → IsRepeat slice r.least r.most r.chance
    by_behind p s false q k = absurd (none-some r k)
    by_behind p s true q k =
        let h = numbers_of (behind_spaces p.inside) r k in
        let inside : p.inside ≡ spaces p.inside ++ (r.least ++ (h.after ++ (h.range ++ h.probability))) = spaces_then p.inside ∙ ap (λ (l : List ℕ). spaces p.inside ++ l) h.whole in
        let whole : slice ≡ 60 ∷ (p.inside ++ 62 ∷ []) = s.whole ∙ ap (λ (l : List ℕ). 60 ∷ (p.inside ++ 62 ∷ l)) (empty_is p.behind q) in
        record {
          no_media = record { inside = p.inside; whole = whole; first = s.first };
          before = spaces p.inside;
          after = h.after;
          range = h.range;
          probability = h.probability;
          whole = whole ∙ (ap (λ (l : List ℕ). 60 ∷ (l ++ 62 ∷ [])) inside ∙ sym (angle_whole (spaces p.inside) r.least h.after h.range h.probability));
          blank_before = spaces_blank p.inside;
          is_number = h.is_number;
          blank_after = h.blank_after;
          is_range = h.is_range;
          is_chance = h.is_chance;
        }

    by_angle : (o : Option Parted) → between (codes "<") (codes ">") slice ≡ o → in_angles o ≡ Some r → IsRepeat slice r.least r.most r.chance
    by_angle None h k = absurd (none-some r k)
    by_angle (Some p) h k = by_behind p (between_of (codes "<") (codes ">") slice p h) (is_empty p.behind) refl k

pub repeat_read : (slice : List ℕ) (r : Numbers) → IsRepeat slice r.least r.most r.chance → repeat slice ≡ Some r
repeat_read slice r h =
    let inside : List ℕ = h.before ++ (r.least ++ (h.after ++ (h.range ++ h.probability))) in
    let p : Parted = record { inside = h.no_media.inside; behind = [] } in
    let found : between (codes "<") (codes ">") slice ≡ Some p = between_found (codes "<") (codes ">") slice p (omega arith) (record { whole = h.no_media.whole; first = h.no_media.first }) in
    let same : h.no_media.inside ≡ inside = append_cancel_right h.no_media.inside inside (62 ∷ []) (tail_of (h.no_media.inside ++ 62 ∷ []) (inside ++ 62 ∷ []) (sym h.no_media.whole ∙ (h.whole ∙ angle_whole h.before r.least h.after h.range h.probability))) in
    let left : behind_spaces h.no_media.inside ≡ r.least ++ (h.after ++ (h.range ++ h.probability)) =
    ap behind_spaces same ∙ behind_blank h.before (r.least ++ (h.after ++ (h.range ++ h.probability))) h.blank_before (number_no_space r.least (h.after ++ (h.range ++ h.probability)) h.is_number) in
    ap in_angles found ∙ (ap numbers left
    ∙ numbers_read (r.least ++ (h.after ++ (h.range ++ h.probability))) r
    (record { after = h.after; range = h.range; probability = h.probability; whole = refl; is_number = h.is_number; blank_after = h.blank_after; is_range = h.is_range; is_chance = h.is_chance }))
  where
    tail_of : (xs ys : List ℕ) → 60 ∷ xs ≡ 60 ∷ ys → xs ≡ ys
    tail_of xs ys e = cc
