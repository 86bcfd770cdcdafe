-- The front that is found has its form, and each form is found.
use Rattle.std.proofs.Common.{◌≡◌, ℕ, zero, suc, ◌+◌, ◌<◌, ◌≤◌, Bool, true, false, cond, ◌&&◌, ◌||◌, ◌⊎◌, inl, inr, Option, Some, None, List, [], ◌∷◌, ◌++◌, length, take, drop, refl, sym, ap, subst, ◌∙◌, arith, append_assoc, length-append}
use Rattle.std.specs.Prelude.{◌≢◌, ◌==◌, nat_le, pos}
use Rattle.std.specs.List.{prefix_len, list_all, list_any}
use Rattle.std.proofs.lemmas.Bool.{eqb-true, and_parts, or_cases}
use Rattle.std.proofs.lemmas.Bool.Decides.{nat_tests}
use Rattle.std.proofs.lemmas.List.{length-take, take-append-drop, take_at}
use Rattle.vg_base.specs.Characters.{is_space, is_name, is_name_start, name_starts, name_others}
use Rattle.script_reader.specs.declared.lexing.lexeme.Sign.{Sign}
use Rattle.script_reader.specs.declared.lexing.lexeme.Sign.TheVariants as g
use Rattle.script_reader.specs.declared.lexing.lexeme.Lexeme.TheVariants as l
use Rattle.script_reader.specs.declared.lexing.cutting.Cut.{Cut}
use Rattle.script_reader.specs.declared.lexing.cutting.Cut.TheVariants as c
use Rattle.script_reader.specs.Signs.{sign_text}
use Rattle.script_reader.specs.code.Decoding.{string_of}
use Rattle.script_reader.specs.Lexemes.{is_digit, is_word_start, is_word, is_within_line, number_value, greatest, IsString, Kind, Blank, LineComment, BlockComment, Word, Number, Str, Mark, EachPasses, LacksClose, OpensComment, HasForm, number_lexeme, StandsFor}
use Rattle.script_reader.specs.code.Front.{other_front, more, begins_slash, block_len, block, slash, three, two, one, or_else, one_sign, two_signs, three_signs, sign_at, digits_len, number_at, number, word, string_at, string, front}
use Rattle.script_reader.proofs.StringForms.{Decodes, DecodesIf, decodes}

-- ---- runs of a class

step : (n : ℕ) → 1 + n ≡ suc n
step n = omega arith

by_test : {A : Type 0} (b : Bool) (P : A → Type 0) (x y : A) → (b ≡ true → P x) → (b ≡ false → P y) → P (cond b x y)
by_test true P x y f g = f refl
by_test false P x y f g = g refl

and_true : (a b : Bool) → a ≡ true → b ≡ true → (a && b) ≡ true
and_true true b h j = j
and_true false b h j = absurd cc

all_cons : (p : ℕ → Bool) (n x : ℕ) (xs : List ℕ) → p x ≡ true → EachPasses p (take n xs) → EachPasses p (take (1 + n) (x ∷ xs))
all_cons p n x xs e h = rw (step n) (and_true (p x) (list_all p (take n xs)) e h)

all_none : (p : ℕ → Bool) (xs : List ℕ) → EachPasses p (take 0 xs)
all_none p [] = refl
all_none p (x ∷ xs) = refl

pub all_prefix : (p : ℕ → Bool) (xs : List ℕ) → EachPasses p (take (prefix_len p xs) xs)
all_prefix p [] = refl
all_prefix p (x ∷ xs) =
    by_test (p x) (λ n. EachPasses p (take n (x ∷ xs))) (1 + prefix_len p xs) 0 (λ e. all_cons p (prefix_len p xs) x xs e (all_prefix p xs)) (λ e. all_none p (x ∷ xs))

pub prefix_within : (p : ℕ → Bool) (xs : List ℕ) → prefix_len p xs ≤ length xs
prefix_within p [] = omega arith
prefix_within p (x ∷ xs) = let h = prefix_within p xs in by_test (p x) (λ n. n ≤ length (x ∷ xs)) (1 + prefix_len p xs) 0 (λ e. omega arith) (λ e. omega arith)

pub prefix_some : (p : ℕ → Bool) (x : ℕ) (xs : List ℕ) → p x ≡ true → prefix_len p (x ∷ xs) ≡ suc (prefix_len p xs)
prefix_some p x xs e = ap (λ b. cond b (1 + prefix_len p xs) 0) e ∙ step (prefix_len p xs)

pub all_le : (p : ℕ → Bool) (s rest : List ℕ) → EachPasses p s → length s ≤ prefix_len p (s ++ rest)
all_le p [] rest h = omega arith
all_le p (x ∷ s) rest h =
    let q = and_parts (p x) (list_all p s) h in
    let again = all_le p s rest q.1 in
    let some = prefix_some p x (s ++ rest) q.0 in omega arith

-- ---- classes

any_more : (p : ℕ × ℕ → Bool) (xs ys : List (ℕ × ℕ)) → list_any p xs ≡ true → list_any p (xs ++ ys) ≡ true
any_more p [] ys h = absurd cc
any_more p (x ∷ xs) ys h = elim (or_cases (p x) (list_any p xs) h) [
  | inl e ↦ rw e refl
  | inr j ↦ or_right (p x) (list_any p (xs ++ ys)) (any_more p xs ys j)
]
  where
    or_right : (a b : Bool) → b ≡ true → (a || b) ≡ true
    or_right true b h = refl
    or_right false b h = h

pub start_is_word : (x : ℕ) → is_word_start x ≡ true → is_word x ≡ true
start_is_word x h = elim (or_cases (is_name_start x) (x == 36) h) [
  | inl e ↦ or_left (is_name x) (x == 36) (any_more (λ range. nat_le range.0 x && nat_le x range.1) name_starts name_others e)
  | inr j ↦ or_right (is_name x) (x == 36) j
]
  where
    or_left : (a b : Bool) → a ≡ true → (a || b) ≡ true
    or_left true b h = refl
    or_left false b h = absurd cc

    or_right : (a b : Bool) → b ≡ true → (a || b) ≡ true
    or_right true b h = refl
    or_right false b h = h

-- ---- what is found has its form

pub record Fits (kind : Kind) (text : List ℕ) (n : ℕ) : Type 0 where
  pub within : n ≤ length text
  pub some : 0 < n
  pub form : HasForm kind (take n text) (drop n text)

abbrev pub Sound : List ℕ → Cut → Type 0
Sound text c.End = text ≡ []
Sound text (c.Gap n) = (kind : Kind) × Fits kind text n × StandsFor kind (take n text) []
Sound text (c.Whole x n) = (kind : Kind) × Fits kind text n × StandsFor kind (take n text) (x ∷ [])
Sound text c.Stop = 0 < length text

space_sound : (x : ℕ) (xs : List ℕ) → is_space x ≡ true → Sound (x ∷ xs) (c.Gap (prefix_len is_space (x ∷ xs)))
space_sound x xs e =
    let n = prefix_len is_space xs in
    subst (λ m. Sound (x ∷ xs) (c.Gap m)) (sym (prefix_some is_space x xs e))
    (Blank, record { within = omega (arith, prefix_within is_space xs); some = omega arith; form = (x, take n xs, refl, and_true (is_space x) (list_all is_space (take n xs)) e (all_prefix is_space xs)) }, refl)

word_sound : (x : ℕ) (xs : List ℕ) → is_word_start x ≡ true → Sound (x ∷ xs) (word (x ∷ xs))
word_sound x xs e =
    let n = prefix_len is_word xs in
    subst (λ m. Sound (x ∷ xs) (c.Whole (l.Word (take m (x ∷ xs))) m)) (sym (prefix_some is_word x xs (start_is_word x e)))
    (Word, record { within = omega (arith, prefix_within is_word xs); some = omega arith; form = (x, take n xs, refl, e, all_prefix is_word xs) }, refl)

pub number_is : (digits : List ℕ) → number digits ≡ c.Whole (number_lexeme digits) (length digits)
number_is digits = by_bool (nat_le (number_value digits) greatest)
  where
    by_bool : (b : Bool) → number_at digits (cond b (Some (pos (number_value digits))) None) ≡ c.Whole (cond b (l.Number (pos (number_value digits)) digits) l.Bad) (length digits)
    by_bool true = refl
    by_bool false = refl

number_fits : (x : ℕ) (xs : List ℕ) (n : ℕ) → Fits Number (x ∷ xs) n → Sound (x ∷ xs) (number (take n (x ∷ xs)))
number_fits x xs n q =
    let len : length (take n (x ∷ xs)) ≡ n = omega (arith, length-take n (x ∷ xs), q.within) in
    subst (Sound (x ∷ xs)) (sym (number_is (take n (x ∷ xs)) ∙ ap (λ m. c.Whole (number_lexeme (take n (x ∷ xs))) m) len)) (Number, q, refl)

digits_sound : (x : ℕ) (xs : List ℕ) → is_digit x ≡ true → Fits Number (x ∷ xs) (digits_len (x ∷ xs))
digits_sound x xs e =
    by_test (x == 48) (Fits Number (x ∷ xs)) 1 (prefix_len is_digit (x ∷ xs))
    (λ t. zero_fits xs)
    (λ t. let n = prefix_len is_digit xs in
    subst (Fits Number (x ∷ xs)) (sym (prefix_some is_digit x xs e))
    (record { within = omega (arith, prefix_within is_digit xs); some = omega arith; form = (x, take n xs, refl, e, all_prefix is_digit xs, λ z. absurd (no_zero x t z)) }))
  where
    no_zero : (x : ℕ) → (x == 48) ≡ false → x ≡ 48 → ⊥
    no_zero x t z = grind (arith, nat_tests)

    zero_fits : (xs : List ℕ) → Fits Number (x ∷ xs) 1
    zero_fits [] = record { within = omega arith; some = omega arith; form = (x, [], refl, e, refl, λ z. refl) }
    zero_fits (y ∷ ys) = record { within = omega arith; some = omega arith; form = (x, [], refl, e, refl, λ z. refl) }

is_quote : (x : ℕ) → (x == 34 || x == 39) ≡ true → (x ≡ 34) ⊎ (x ≡ 39)
is_quote x h = elim (or_cases (x == 34) (x == 39) h) [ inl e ↦ inl (eqb-true x 34 e) | inr j ↦ inr (eqb-true x 39 j) ]

record_string : (q : ℕ) (xs decoded : List ℕ) (n : ℕ) → (q ≡ 34) ⊎ (q ≡ 39) → Decodes q 0 xs decoded n → Sound (q ∷ xs) (c.Whole (l.Str decoded) (1 + n))
record_string q xs decoded n k d =
    let none : d.passed ≡ [] = empty d.passed d.passed_len in
    let text_is : xs ≡ d.inside ++ q ∷ d.rest = d.text_is ∙ ap (λ (ys : List ℕ). ys ++ (d.inside ++ q ∷ d.rest)) none in
    let slice_is : take (1 + n) (q ∷ xs) ≡ q ∷ (d.inside ++ q ∷ []) = rw (step n) (ap (λ (ys : List ℕ). q ∷ ys) (inside_is xs d.inside d.rest n text_is d.len_is)) in
    let is : IsString (take (1 + n) (q ∷ xs)) decoded = (q, d.inside, k, slice_is, d.characters) in
    (Str, record { within = within_is xs d.inside d.rest n text_is d.len_is; some = omega arith; form = (decoded, is) }, (decoded, is, refl))
  where
    empty : (ys : List ℕ) → length ys ≡ 0 → ys ≡ []
    empty [] h = refl
    empty (y ∷ ys) h = absurd (omega arith)

    inside_is : (xs inside rest : List ℕ) (n : ℕ) → xs ≡ inside ++ q ∷ rest → n ≡ 0 + (length inside + 1) → take n xs ≡ inside ++ q ∷ []
    inside_is xs inside rest n h e = ap (take n) (h ∙ sym (append_assoc inside (q ∷ []) rest)) ∙ take_at (inside ++ q ∷ []) rest n (omega (arith, length-append inside (q ∷ []), e))

    within_is : (xs inside rest : List ℕ) (n : ℕ) → xs ≡ inside ++ q ∷ rest → n ≡ 0 + (length inside + 1) → 1 + n ≤ length (q ∷ xs)
    within_is xs inside rest n h e = omega (arith, ap length h, length-append inside (q ∷ rest), e)

string_if : (q : ℕ) (xs : List ℕ) (o : Option (List ℕ × ℕ)) → (q ≡ 34) ⊎ (q ≡ 39) → DecodesIf q 0 xs o → Sound (q ∷ xs) (string_at o)
string_if q xs None k d = omega arith
string_if q xs (Some found) k d = record_string q xs found.0 found.1 k d

string_sound : (q : ℕ) (xs : List ℕ) → (q ≡ 34) ⊎ (q ≡ 39) → Sound (q ∷ xs) (string q xs)
string_sound q xs k = string_if q xs (string_of q xs) k (decodes q xs 0)

-- a comment's end
pub record Closing (cs : List ℕ) (n : ℕ) : Type 0 where
  pub inside : List ℕ
  pub within : n ≤ length cs
  pub taken : take n cs ≡ inside ++ 42 ∷ 47 ∷ []
  pub first : LacksClose (inside ++ 42 ∷ [])

abbrev ClosingAt : List ℕ → Option ℕ → Type 0
ClosingAt cs None = Unit {0}
ClosingAt cs (Some n) = Closing cs n

star_alone : LacksClose (42 ∷ [])
star_alone [] after e = absurd cc
star_alone (b ∷ []) after e = absurd cc
star_alone (b ∷ d ∷ before) after e = absurd cc

closes_here : (x : ℕ) (cs : List ℕ) → (x == 42 && begins_slash cs) ≡ true → Closing (x ∷ cs) 2
closes_here x [] e = absurd (no_and (x == 42) e)
  where
    no_and : (b : Bool) → (b && false) ≡ true → ⊥
    no_and true h = cc
    no_and false h = cc
closes_here x (d ∷ cs) e =
    let q = and_parts (x == 42) (d == 47) e in
    record { inside = []; within = omega arith; taken = rw (eqb-true x 42 q.0, eqb-true d 47 q.1) (none cs); first = star_alone }
  where
    none : (cs : List ℕ) → take 2 (42 ∷ 47 ∷ cs) ≡ 42 ∷ 47 ∷ []
    none [] = refl
    none (x ∷ cs) = refl

true_not : true ≡ false → ⊥
true_not q = cc

begins_with : (inside after : List ℕ) (x y : ℕ) → (x ≡ y → ⊥) → inside ++ x ∷ [] ≡ y ∷ after → (rest : List ℕ) × (inside ≡ y ∷ rest)
begins_with [] after x y apart q = absurd (apart cc)
begins_with (d ∷ inside) after x y apart q = let d_is : d ≡ y = cc in (inside, ap (λ z. z ∷ inside) d_is)

slash_first : (n : ℕ) (cs rest : List ℕ) → take n cs ≡ 47 ∷ rest → begins_slash cs ≡ true
slash_first zero [] rest t = absurd cc
slash_first zero (x ∷ cs) rest t = absurd cc
slash_first (suc n) [] rest t = absurd cc
slash_first (suc n) (x ∷ cs) rest t = let x_is : x ≡ 47 = cc in rw x_is refl

tails_is : (a b : ℕ) (xs ys : List ℕ) → a ∷ xs ≡ b ∷ ys → (a ≡ b) × (xs ≡ ys)
tails_is a b xs ys q = (cc, cc)

star_not_slash : ◌≡◌ {A = ℕ} 42 47 → ⊥
star_not_slash q = omega arith

both_true : (x : ℕ) (cs : List ℕ) → x ≡ 42 → begins_slash cs ≡ true → (x == 42 && begins_slash cs) ≡ true
both_true x cs p q = rw (p, q) refl

lacks_here : (x n : ℕ) (cs inside after : List ℕ) → (x == 42 && begins_slash cs) ≡ false → take n cs ≡ inside ++ 42 ∷ 47 ∷ [] → x ∷ (inside ++ 42 ∷ []) ≡ 42 ∷ 47 ∷ after → ⊥
lacks_here x n cs inside after e t q =
    let parts = tails_is x 42 (inside ++ 42 ∷ []) (47 ∷ after) q in
    let first = begins_with inside after 42 47 star_not_slash parts.1 in
    let slash : begins_slash cs ≡ true = slash_first n cs (first.0 ++ 42 ∷ 47 ∷ []) (t ∙ ap (λ (ys : List ℕ). ys ++ 42 ∷ 47 ∷ []) first.1) in
    true_not (sym (both_true x cs parts.0 slash) ∙ e)

lacks_more : (x n : ℕ) (cs inside : List ℕ) → (x == 42 && begins_slash cs) ≡ false → take n cs ≡ inside ++ 42 ∷ 47 ∷ [] → LacksClose (inside ++ 42 ∷ []) → LacksClose (x ∷ (inside ++ 42 ∷ []))
lacks_more x n cs inside e t h [] after q = lacks_here x n cs inside after e t q
lacks_more x n cs inside e t h (b ∷ before) after q = h before after (tails_is x b (inside ++ 42 ∷ []) (before ++ 42 ∷ 47 ∷ after) q).1

closing_later : (x : ℕ) (cs : List ℕ) (o : Option ℕ) → (x == 42 && begins_slash cs) ≡ false → ClosingAt cs o → ClosingAt (x ∷ cs) (more o)
closing_later x cs None e h = tt
closing_later x cs (Some n) e h = record {
  inside = x ∷ h.inside;
  within = omega (arith, h.within);
  taken = ap (λ (ys : List ℕ). x ∷ ys) h.taken;
  first = lacks_more x n cs h.inside e h.taken h.first;
}

block_closes : (cs : List ℕ) → ClosingAt cs (block_len cs)
block_closes [] = tt
block_closes (x ∷ cs) =
    by_test (x == 42 && begins_slash cs) (ClosingAt (x ∷ cs)) (Some 2) (more (block_len cs)) (closes_here x cs) (λ e. closing_later x cs (block_len cs) e (block_closes cs))

two_more : (n : ℕ) → 2 + n ≡ suc (suc n)
two_more n = omega arith

block_sound : (cs : List ℕ) (o : Option ℕ) → ClosingAt cs o → Sound (47 ∷ 42 ∷ cs) (block o)
block_sound cs None h = omega arith
block_sound cs (Some n) h =
    (BlockComment, record { within = omega (arith, h.within); some = omega arith; form = rw (two_more n) (h.inside, ap (λ (ys : List ℕ). 47 ∷ 42 ∷ ys) h.taken, h.first) }, refl)

line_sound : (cs : List ℕ) → Sound (47 ∷ 47 ∷ cs) (c.Gap (2 + prefix_len is_within_line cs))
line_sound cs = (
  LineComment,
  record {
    within = omega (arith, prefix_within is_within_line cs);
    some = omega arith;
    form = rw (two_more (prefix_len is_within_line cs)) (take (prefix_len is_within_line cs) cs, refl, all_prefix is_within_line cs);
  },
  refl,
)

over_sound : (cs : List ℕ) → (OpensComment (47 ∷ cs) → ⊥) → Sound (47 ∷ cs) (c.Whole (l.Sign g.Over) 1)
over_sound cs n = (Mark, record { within = omega arith; some = omega arith; form = (g.Over, one_taken cs, λ o. n (opens cs o)) }, (g.Over, one_taken cs, refl))
  where
    one_taken : (cs : List ℕ) → take 1 (47 ∷ cs) ≡ 47 ∷ []
    one_taken [] = refl
    one_taken (x ∷ cs) = refl

    opens : (cs : List ℕ) → OpensComment (take 1 (47 ∷ cs) ++ drop 1 (47 ∷ cs)) → OpensComment (47 ∷ cs)
    opens cs o = subst OpensComment (take-append-drop 1 (47 ∷ cs)) o

no_comment_alone : OpensComment (47 ∷ []) → ⊥
no_comment_alone (rest, inl e) = cc
no_comment_alone (rest, inr e) = cc

no_comment : (x : ℕ) (cs : List ℕ) → (x == 47) ≡ false → (x == 42) ≡ false → OpensComment (47 ∷ x ∷ cs) → ⊥
no_comment x cs p q (rest, inl e) = not_equal x 47 p (second x 47 cs rest e)
  where
    second : (x y : ℕ) (cs rest : List ℕ) → 47 ∷ x ∷ cs ≡ 47 ∷ y ∷ rest → x ≡ y
    second x y cs rest e = cc

    not_equal : (x y : ℕ) → (x == y) ≡ false → x ≡ y → ⊥
    not_equal x y h e = grind (arith, nat_tests)
no_comment x cs p q (rest, inr e) = not_equal x 42 q (second x 42 cs rest e)
  where
    second : (x y : ℕ) (cs rest : List ℕ) → 47 ∷ x ∷ cs ≡ 47 ∷ y ∷ rest → x ≡ y
    second x y cs rest e = cc

    not_equal : (x y : ℕ) → (x == y) ≡ false → x ≡ y → ⊥
    not_equal x y h e = grind (arith, nat_tests)

slash_sound : (cs : List ℕ) → Sound (47 ∷ cs) (slash cs)
slash_sound [] = over_sound [] no_comment_alone
slash_sound (x ∷ cs) =
    by_test (x == 47) (Sound (47 ∷ x ∷ cs)) (c.Gap (2 + prefix_len is_within_line cs)) (cond (x == 42) (block (block_len cs)) (c.Whole (l.Sign g.Over) 1))
    (λ e. subst (λ y. Sound (47 ∷ y ∷ cs) (c.Gap (2 + prefix_len is_within_line cs))) (sym (eqb-true x 47 e)) (line_sound cs))
    (λ e. by_test (x == 42) (Sound (47 ∷ x ∷ cs)) (block (block_len cs)) (c.Whole (l.Sign g.Over) 1)
    (λ k. subst (λ y. Sound (47 ∷ y ∷ cs) (block (block_len cs))) (sym (eqb-true x 42 k)) (block_sound cs (block_len cs) (block_closes cs)))
    (λ k. over_sound (x ∷ cs) (no_comment x cs e k)))

-- ---- signs

abbrev Spelt : List ℕ → Option Sign → Type 0
Spelt text None = Unit {0}
Spelt text (Some sign) = sign_text sign ≡ text

one_spelt : (a : ℕ) → Spelt (a ∷ []) (one a)
one_spelt a = chain
  where
    here : (k : ℕ) (sign : Sign) (other : Option Sign) → sign_text sign ≡ k ∷ [] → Spelt (a ∷ []) other → Spelt (a ∷ []) (cond (a == k) (Some sign) other)
    here k sign other h q = by_test (a == k) (Spelt (a ∷ [])) (Some sign) other (λ e. h ∙ ap (λ x. x ∷ []) (sym (eqb-true a k e))) (λ e. q)

    chain : Spelt (a ∷ []) (one a)
    chain =
        here 60 g.Less _ refl (here 62 g.Greater _ refl (here 43 g.Plus _ refl (here 45 g.Minus _ refl (here 42 g.Times _ refl (here 37 g.Rem _ refl (here 33 g.Not _ refl (here 61 g.Set _ refl
        (here 63 g.Question _ refl (here 58 g.Colon _ refl (here 59 g.Semicolon _ refl (here 44 g.Comma _ refl (here 46 g.Dot _ refl (here 40 g.RoundOpen _ refl (here 41 g.RoundClose _ refl
        (here 91 g.SquareOpen _ refl (here 93 g.SquareClose _ refl (here 123 g.CurlyOpen _ refl (here 125 g.CurlyClose _ refl tt))))))))))))))))))

two_spelt : (a b : ℕ) → Spelt (a ∷ b ∷ []) (two a b)
two_spelt a b =
    by_test (b == 61) (Spelt (a ∷ b ∷ [])) _ _ (λ e. subst (λ y. Spelt (a ∷ y ∷ []) equals) (sym (eqb-true b 61 e)) chain)
    (λ e. both 124 g.Or _ refl (both 38 g.And _ refl tt))
  where
    equals : Option Sign
    equals =
        cond (a == 61) (Some g.Equal) (cond (a == 33) (Some g.NotEqual) (cond (a == 60) (Some g.LessEqual) (cond (a == 62) (Some g.GreaterEqual) (cond (a == 43) (Some g.AddTo) (cond (a == 45) (Some g.TakeFrom) None)))))

    here : (k : ℕ) (sign : Sign) (other : Option Sign) → sign_text sign ≡ k ∷ 61 ∷ [] → Spelt (a ∷ 61 ∷ []) other → Spelt (a ∷ 61 ∷ []) (cond (a == k) (Some sign) other)
    here k sign other h q = by_test (a == k) (Spelt (a ∷ 61 ∷ [])) (Some sign) other (λ e. h ∙ ap (λ x. x ∷ 61 ∷ []) (sym (eqb-true a k e))) (λ e. q)

    chain : Spelt (a ∷ 61 ∷ []) (cond (a == 61) (Some g.Equal) (cond (a == 33) (Some g.NotEqual) (cond (a == 60) (Some g.LessEqual) (cond (a == 62) (Some g.GreaterEqual) (cond (a == 43) (Some g.AddTo) (cond (a == 45) (Some g.TakeFrom) None))))))
    chain = here 61 g.Equal _ refl (here 33 g.NotEqual _ refl (here 60 g.LessEqual _ refl (here 62 g.GreaterEqual _ refl (here 43 g.AddTo _ refl (here 45 g.TakeFrom _ refl tt)))))

    both : (k : ℕ) (sign : Sign) (other : Option Sign) → sign_text sign ≡ k ∷ k ∷ [] → Spelt (a ∷ b ∷ []) other → Spelt (a ∷ b ∷ []) (cond (a == k && b == k) (Some sign) other)
    both k sign other h q =
        by_test (a == k && b == k) (Spelt (a ∷ b ∷ [])) (Some sign) other
        (λ e. let p = and_parts (a == k) (b == k) e in h ∙ ap (λ x. x ∷ k ∷ []) (sym (eqb-true a k p.0)) ∙ ap (λ x. a ∷ x ∷ []) (sym (eqb-true b k p.1)))
        (λ e. q)

three_spelt : (a b d : ℕ) → Spelt (a ∷ b ∷ d ∷ []) (three a b d)
three_spelt a b d =
    by_test (b == 61 && d == 61) (Spelt (a ∷ b ∷ d ∷ [])) _ None
    (λ e. let p = and_parts (b == 61) (d == 61) e in
    here b d (eqb-true b 61 p.0) (eqb-true d 61 p.1) 61 g.Same _ refl (here b d (eqb-true b 61 p.0) (eqb-true d 61 p.1) 33 g.NotSame _ refl tt))
    (λ e. tt)
  where
    here : (b d : ℕ) → b ≡ 61 → d ≡ 61 → (k : ℕ) (sign : Sign) (other : Option Sign) → sign_text sign ≡ k ∷ 61 ∷ 61 ∷ [] → Spelt (a ∷ b ∷ d ∷ []) other → Spelt (a ∷ b ∷ d ∷ []) (cond (a == k) (Some sign) other)
    here b d p r k sign other h q =
        by_test (a == k) (Spelt (a ∷ b ∷ d ∷ [])) (Some sign) other
        (λ e. h ∙ ap (λ x. x ∷ 61 ∷ 61 ∷ []) (sym (eqb-true a k e)) ∙ ap (λ x. a ∷ x ∷ 61 ∷ []) (sym p) ∙ ap (λ x. a ∷ b ∷ x ∷ []) (sym r))
        (λ e. q)

no_open : (a : ℕ) (xs rest : List ℕ) → a ≢ 47 → OpensComment (a ∷ xs) → ⊥
no_open a xs rest n (more, inl e) = n (first a 47 xs (47 ∷ more) e)
  where
    first : (x y : ℕ) (xs ys : List ℕ) → x ∷ xs ≡ y ∷ ys → x ≡ y
    first x y xs ys e = cc
no_open a xs rest n (more, inr e) = n (first a 47 xs (42 ∷ more) e)
  where
    first : (x y : ℕ) (xs ys : List ℕ) → x ∷ xs ≡ y ∷ ys → x ≡ y
    first x y xs ys e = cc

mark_sound : (a : ℕ) (xs : List ℕ) (sign : Sign) (n : ℕ) → a ≢ 47 → n ≤ length (a ∷ xs) → 0 < n → sign_text sign ≡ take n (a ∷ xs) → Sound (a ∷ xs) (c.Whole (l.Sign sign) n)
mark_sound a xs sign n na le lt h =
    (Mark, record { within = le; some = lt; form = (sign, sym h, λ o. no_open a xs [] na (subst OpensComment (take-append-drop n (a ∷ xs)) o)) }, (sign, sym h, refl))

or_else_sound : (text : List ℕ) (o : Option Sign) (n : ℕ) (other : Cut) → ((sign : Sign) → o ≡ Some sign → Sound text (c.Whole (l.Sign sign) n)) → Sound text other → Sound text (or_else o n other)
or_else_sound text None n other f q = q
or_else_sound text (Some sign) n other f q = f sign refl

spelt_as : (text : List ℕ) (o : Option Sign) (sign : Sign) → o ≡ Some sign → Spelt text o → sign_text sign ≡ text
spelt_as text o sign e h = subst (Spelt text) e h

one_sound : (a : ℕ) (xs : List ℕ) → a ≢ 47 → Sound (a ∷ xs) (one_sign a)
one_sound a xs n = or_else_sound (a ∷ xs) (one a) 1 c.Stop (λ sign e. mark_sound a xs sign 1 n (omega arith) (omega arith) (spelt_as (a ∷ []) (one a) sign e (one_spelt a) ∙ sym (taken xs))) (omega arith)
  where
    taken : (xs : List ℕ) → take 1 (a ∷ xs) ≡ a ∷ []
    taken [] = refl
    taken (x ∷ xs) = refl

two_sound : (a b : ℕ) (xs : List ℕ) → a ≢ 47 → Sound (a ∷ b ∷ xs) (two_signs a b)
two_sound a b xs n = or_else_sound (a ∷ b ∷ xs) (two a b) 2 (one_sign a) (λ sign e. mark_sound a (b ∷ xs) sign 2 n (omega arith) (omega arith) (spelt_as (a ∷ b ∷ []) (two a b) sign e (two_spelt a b) ∙ sym (taken xs))) (one_sound a (b ∷ xs) n)
  where
    taken : (xs : List ℕ) → take 2 (a ∷ b ∷ xs) ≡ a ∷ b ∷ []
    taken [] = refl
    taken (x ∷ xs) = refl

three_sound : (a b d : ℕ) (xs : List ℕ) → a ≢ 47 → Sound (a ∷ b ∷ d ∷ xs) (three_signs a b d)
three_sound a b d xs n =
    or_else_sound (a ∷ b ∷ d ∷ xs) (three a b d) 3 (two_signs a b) (λ sign e. mark_sound a (b ∷ d ∷ xs) sign 3 n (omega arith) (omega arith) (spelt_as (a ∷ b ∷ d ∷ []) (three a b d) sign e (three_spelt a b d) ∙ sym (taken xs))) (two_sound a b (d ∷ xs) n)
  where
    taken : (xs : List ℕ) → take 3 (a ∷ b ∷ d ∷ xs) ≡ a ∷ b ∷ d ∷ []
    taken [] = refl
    taken (x ∷ xs) = refl

sign_sound : (a : ℕ) (xs : List ℕ) → a ≢ 47 → Sound (a ∷ xs) (sign_at (a ∷ xs))
sign_sound a [] n = one_sound a [] n
sign_sound a (b ∷ []) n = two_sound a b [] n
sign_sound a (b ∷ d ∷ xs) n = three_sound a b d xs n

apart_of : (a b : ℕ) → (a == b) ≡ false → a ≢ b
apart_of a b h e = grind (arith, nat_tests)

pub front_sound : (text : List ℕ) → Sound text (front text)
unfolding front other_front
front_sound [] = refl
front_sound (x ∷ xs) =
    by_test (is_space x) (Sound (x ∷ xs)) (c.Gap (prefix_len is_space (x ∷ xs))) _ (space_sound x xs)
    (λ s. by_test (is_word_start x) (Sound (x ∷ xs)) (word (x ∷ xs)) _ (word_sound x xs)
    (λ w. by_test (is_digit x) (Sound (x ∷ xs)) (number (take (digits_len (x ∷ xs)) (x ∷ xs))) _ (λ e. number_fits x xs (digits_len (x ∷ xs)) (digits_sound x xs e))
    (λ d. by_test (x == 34 || x == 39) (Sound (x ∷ xs)) (string x xs) _ (λ e. string_sound x xs (is_quote x e))
    (λ q. by_test (x == 47) (Sound (x ∷ xs)) (slash xs) (sign_at (x ∷ xs)) (λ e. subst (λ y. Sound (y ∷ xs) (slash xs)) (sym (eqb-true x 47 e)) (slash_sound xs))
    (λ e. sign_sound x xs (apart_of x 47 e))))))
