-- Each form is found.
use Rattle.std.proofs.Common.{◌≡◌, ℕ, ◌+◌, ◌<◌, ◌≤◌, Bool, true, false, cond, ◌&&◌, ◌||◌, ◌⊎◌, inl, inr, Option, Some, None, List, [], ◌∷◌, ◌++◌, length, take, drop, refl, sym, ap, subst, ◌∙◌, arith, append_assoc, length-append}
use Rattle.std.specs.Prelude.{◌≢◌, ◌==◌, nat_le}
use Rattle.std.specs.List.{prefix_len, list_all}
use Rattle.std.proofs.lemmas.Bool.{eqb-true, and_parts, or_cases, leb-true}
use Rattle.std.proofs.lemmas.List.{length-take, take-append-drop, take_at}
use Rattle.vg_base.specs.Characters.{is_space, is_name_start, lies_in, spaces, name_starts, Ranges}
use Rattle.script_reader.specs.declared.lexing.lexeme.Sign.{Sign}
use Rattle.script_reader.specs.declared.lexing.lexeme.Sign.TheVariants as g
use Rattle.script_reader.specs.declared.lexing.lexeme.Lexeme.{Lexeme}
use Rattle.script_reader.specs.declared.lexing.lexeme.Lexeme.TheVariants as l
use Rattle.script_reader.specs.declared.lexing.cutting.Cut.{Cut}
use Rattle.script_reader.specs.declared.lexing.cutting.Cut.TheVariants as c
use Rattle.script_reader.specs.Signs.{sign_text}
use Rattle.script_reader.specs.Lexemes.{is_digit, is_word_start, is_word, is_within_line, IsString, Kind, Blank, LineComment, BlockComment, Word, Number, Str, Mark, EachPasses, LacksClose, OpensComment, HasForm, Longest, NoForm, number_lexeme, StandsFor}
use Rattle.script_reader.specs.code.Front.{other_front, begins_slash, block_len, block, slash, three, two, one, or_else, one_sign, two_signs, sign_at, digits_len, number, word, string_at, string, front}
use Rattle.script_reader.proofs.StringForms.{decode_found}
use Rattle.script_reader.proofs.Forms.{all_le, prefix_within, start_is_word, number_is, Fits, Sound, front_sound}

-- ---- what was found

abbrev pub front_len : Cut → Option ℕ
front_len (c.Gap n) = Some n
front_len (c.Whole x n) = Some n
front_len c.End = None
front_len c.Stop = None

abbrev pub FrontGives : Cut → List Lexeme → Type 0
FrontGives (c.Gap n) found = found ≡ []
FrontGives (c.Whole x n) found = found ≡ x ∷ []
FrontGives c.End found = ⊥
FrontGives c.Stop found = ⊥

-- the front is at least as long as the slice, and where it is no longer, it is these lexemes
pub record Finds (text slice : List ℕ) (found : List Lexeme) : Type 0 where
  pub len : ℕ
  pub is_len : front_len (front text) ≡ Some len
  pub enough : length slice ≤ len
  pub gives : len ≡ length slice → FrontGives (front text) found

finds_cut : (text slice : List ℕ) (found : List Lexeme) (o : Cut) (n : ℕ) → front text ≡ o → front_len o ≡ Some n → length slice ≤ n → (n ≡ length slice → FrontGives o found) → Finds text slice found
finds_cut text slice found o n e h le f = record { len = n; is_len = ap front_len e ∙ h; enough = le; gives = λ q. subst (λ (y : Cut). FrontGives y found) (sym e) (f q) }

-- ---- classes are apart

above_all : (ranges : Ranges) (lo x : ℕ) → list_all (λ range. nat_le lo range.0) ranges ≡ true → lies_in ranges x ≡ true → lo ≤ x
above_all [] lo x h j = absurd cc
above_all (range ∷ ranges) lo x h j =
    let q = and_parts (nat_le lo range.0) (list_all (λ r. nat_le lo r.0) ranges) h in
    elim (or_cases (nat_le range.0 x && nat_le x range.1) (lies_in ranges x) j) [
      | inl e ↦ let p = and_parts (nat_le range.0 x) (nat_le x range.1) e in le_two lo range.0 x (leb-true lo range.0 q.0) (leb-true range.0 x p.0)
      | inr i ↦ above_all ranges lo x q.1 i
    ]
  where
    le_two : (a b d : ℕ) → a ≤ b → b ≤ d → a ≤ d
    le_two a b d h j = omega arith

below_all : (ranges : Ranges) (hi x : ℕ) → list_all (λ range. nat_le range.1 hi) ranges ≡ true → lies_in ranges x ≡ true → x ≤ hi
below_all [] hi x h j = absurd cc
below_all (range ∷ ranges) hi x h j =
    let q = and_parts (nat_le range.1 hi) (list_all (λ r. nat_le r.1 hi) ranges) h in
    elim (or_cases (nat_le range.0 x && nat_le x range.1) (lies_in ranges x) j) [
      | inl e ↦ let p = and_parts (nat_le range.0 x) (nat_le x range.1) e in le_two x range.1 hi (leb-true x range.1 p.1) (leb-true range.1 hi q.0)
      | inr i ↦ below_all ranges hi x q.1 i
    ]
  where
    le_two : (a b d : ℕ) → a ≤ b → b ≤ d → a ≤ d
    le_two a b d h j = omega arith

space_small : (x : ℕ) → is_space x ≡ true → x ≤ 32
space_small x h = below_all spaces 32 x refl h

start_great : (x : ℕ) → is_word_start x ≡ true → (x ≡ 36) ⊎ (65 ≤ x)
start_great x h = elim (or_cases (is_name_start x) (x == 36) h) [ inl e ↦ inr (above_all name_starts 65 x refl e) | inr j ↦ inl (eqb-true x 36 j) ]

digit_bounds : (x : ℕ) → is_digit x ≡ true → (48 ≤ x) × (x ≤ 57)
digit_bounds x h = let p = and_parts (nat_le 48 x) (nat_le x 57) h in (leb-true 48 x p.0, leb-true x 57 p.1)

is_false : (b : Bool) → (b ≡ true → ⊥) → b ≡ false
is_false true h = absurd (h refl)
is_false false h = refl

start_no_space : (x : ℕ) → is_word_start x ≡ true → is_space x ≡ false
start_no_space x h = is_false (is_space x) (λ e. apart (space_small x e) (start_great x h))
  where
    apart : x ≤ 32 → (x ≡ 36) ⊎ (65 ≤ x) → ⊥
    apart le (inl e) = omega arith
    apart le (inr e) = omega arith

digit_no_space : (x : ℕ) → is_digit x ≡ true → is_space x ≡ false
digit_no_space x h = is_false (is_space x) (λ e. apart (space_small x e) (digit_bounds x h).0)
  where
    apart : x ≤ 32 → 48 ≤ x → ⊥
    apart le lt = omega arith

digit_no_start : (x : ℕ) → is_digit x ≡ true → is_word_start x ≡ false
digit_no_start x h = is_false (is_word_start x) (λ e. apart (digit_bounds x h).0 (digit_bounds x h).1 (start_great x e))
  where
    apart : 48 ≤ x → x ≤ 57 → (x ≡ 36) ⊎ (65 ≤ x) → ⊥
    apart lt le (inl e) = omega arith
    apart lt le (inr e) = omega arith

abbrev picks : ℕ → List ℕ → Bool → Bool → Bool → Bool → Bool → Cut
picks x xs s w d q k =
    cond s (c.Gap (prefix_len is_space (x ∷ xs))) (cond w (word (x ∷ xs)) (cond d (number (take (digits_len (x ∷ xs)) (x ∷ xs))) (cond q (string x xs) (cond k (slash xs) (sign_at (x ∷ xs))))))

front_is : (x : ℕ) (xs : List ℕ) → front (x ∷ xs) ≡ picks x xs (is_space x) (is_word_start x) (is_digit x) (x == 34 || x == 39) (x == 47)
unfolding front other_front
front_is x xs = refl

front_space : (x : ℕ) (xs : List ℕ) → is_space x ≡ true → front (x ∷ xs) ≡ c.Gap (prefix_len is_space (x ∷ xs))
front_space x xs e = front_is x xs ∙ ap (λ b. picks x xs b (is_word_start x) (is_digit x) (x == 34 || x == 39) (x == 47)) e

front_word : (x : ℕ) (xs : List ℕ) → is_word_start x ≡ true → front (x ∷ xs) ≡ word (x ∷ xs)
front_word x xs e =
    front_is x xs ∙ ap (λ b. picks x xs b (is_word_start x) (is_digit x) (x == 34 || x == 39) (x == 47)) (start_no_space x e)
    ∙ ap (λ b. picks x xs false b (is_digit x) (x == 34 || x == 39) (x == 47)) e

front_digit : (x : ℕ) (xs : List ℕ) → is_digit x ≡ true → front (x ∷ xs) ≡ number (take (digits_len (x ∷ xs)) (x ∷ xs))
front_digit x xs e =
    front_is x xs ∙ ap (λ b. picks x xs b (is_word_start x) (is_digit x) (x == 34 || x == 39) (x == 47)) (digit_no_space x e)
    ∙ ap (λ b. picks x xs false b (is_digit x) (x == 34 || x == 39) (x == 47)) (digit_no_start x e)
    ∙ ap (λ b. picks x xs false false b (x == 34 || x == 39) (x == 47)) e

-- ---- each form is found

and_true : (a b : Bool) → a ≡ true → b ≡ true → (a && b) ≡ true
and_true true b h j = j
and_true false b h j = absurd cc

blank_finds : (x : ℕ) (s rest : List ℕ) (found : List Lexeme) → EachPasses is_space (x ∷ s) → found ≡ [] → Finds ((x ∷ s) ++ rest) (x ∷ s) found
blank_finds x s rest found h e =
    let q = and_parts (is_space x) (list_all is_space s) h in
    finds_cut _ (x ∷ s) found _ (prefix_len is_space ((x ∷ s) ++ rest)) (front_space x (s ++ rest) q.0) refl (all_le is_space (x ∷ s) rest h) (λ z. e)

word_finds : (x : ℕ) (s rest : List ℕ) (found : List Lexeme) → is_word_start x ≡ true → EachPasses is_word s → found ≡ l.Word (x ∷ s) ∷ [] → Finds ((x ∷ s) ++ rest) (x ∷ s) found
word_finds x s rest found w h e =
    let n = prefix_len is_word ((x ∷ s) ++ rest) in
    finds_cut _ (x ∷ s) found _ n (front_word x (s ++ rest) w) refl (all_le is_word (x ∷ s) rest (and_true (is_word x) (list_all is_word s) (start_is_word x w) h))
    (λ z. e ∙ ap (λ (y : List ℕ). l.Word y ∷ []) (sym (take_at (x ∷ s) rest n (sym z))))

digits_within : (text : List ℕ) → digits_len text ≤ length text
digits_within [] = omega arith
digits_within (x ∷ xs) = by_bool (x == 48)
  where
    by_bool : (b : Bool) → cond b 1 (prefix_len is_digit (x ∷ xs)) ≤ length (x ∷ xs)
    by_bool true = omega arith
    by_bool false = prefix_within is_digit (x ∷ xs)

digits_enough : (x : ℕ) (s rest : List ℕ) → is_digit x ≡ true → EachPasses is_digit s → (x ≡ 48 → s ≡ []) → length (x ∷ s) ≤ digits_len ((x ∷ s) ++ rest)
digits_enough x s rest d h z = by_bool (x == 48) refl
  where
    by_bool : (b : Bool) → (x == 48) ≡ b → length (x ∷ s) ≤ cond b 1 (prefix_len is_digit ((x ∷ s) ++ rest))
    by_bool true e = one_long s (z (eqb-true x 48 e))
      where
        one_long : (s : List ℕ) → s ≡ [] → length (x ∷ s) ≤ 1
        one_long s e = omega (arith, ap length e)
    by_bool false e = all_le is_digit (x ∷ s) rest (and_true (is_digit x) (list_all is_digit s) d h)

number_finds : (x : ℕ) (s rest : List ℕ) (found : List Lexeme) → is_digit x ≡ true → EachPasses is_digit s → (x ≡ 48 → s ≡ []) → found ≡ number_lexeme (x ∷ s) ∷ [] → Finds ((x ∷ s) ++ rest) (x ∷ s) found
number_finds x s rest found d h z e =
    let text = (x ∷ s) ++ rest in
    let n = digits_len text in
    let len : length (take n text) ≡ n = taken_len n text (digits_within text) in
    finds_cut text (x ∷ s) found (c.Whole (number_lexeme (take n text)) n) n (front_digit x (s ++ rest) d ∙ number_is (take n text) ∙ ap (λ m. c.Whole (number_lexeme (take n text)) m) len) refl (digits_enough x s rest d h z)
    (λ q. e ∙ ap (λ (y : List ℕ). number_lexeme y ∷ []) (sym (take_at (x ∷ s) rest n (sym q))))
  where
    taken_len : (n : ℕ) (text : List ℕ) → n ≤ length text → length (take n text) ≡ n
    taken_len n text h = omega (arith, length-take n text)

front_string : (q : ℕ) (xs : List ℕ) → (q ≡ 34) ⊎ (q ≡ 39) → front (q ∷ xs) ≡ string q xs
unfolding front other_front
front_string q xs (inl e) = rw e refl
front_string q xs (inr e) = rw e refl

quote_apart : (q : ℕ) → (q ≡ 34) ⊎ (q ≡ 39) → q ≢ 92
quote_apart q (inl e) h = omega arith
quote_apart q (inr e) h = omega arith

string_finds : (s rest decoded : List ℕ) (found : List Lexeme) → IsString s decoded → found ≡ l.Str decoded ∷ [] → Finds (s ++ rest) s found
string_finds s rest decoded found h e =
    let q = h.0 in
    let inside = h.1 in
    let text_is : s ++ rest ≡ q ∷ (inside ++ q ∷ rest) = ap (λ (ys : List ℕ). ys ++ rest) h.3 ∙ ap (λ (ys : List ℕ). q ∷ ys) (append_assoc inside (q ∷ []) rest) in
    let cut : front (s ++ rest) ≡ c.Whole (l.Str decoded) (1 + (length inside + 1)) = ap front text_is ∙ front_string q (inside ++ q ∷ rest) h.2 ∙ ap string_at (decode_found q decoded inside rest (quote_apart q h.2) h.4) in
    finds_cut (s ++ rest) s found (c.Whole (l.Str decoded) (1 + (length inside + 1))) (1 + (length inside + 1)) cut refl (omega (arith, ap length h.3, length-append inside (q ∷ []))) (λ z. e)

line_finds : (s rest : List ℕ) (found : List Lexeme) → EachPasses is_within_line s → found ≡ [] → Finds (47 ∷ 47 ∷ (s ++ rest)) (47 ∷ 47 ∷ s) found
unfolding front other_front
line_finds s rest found h e = finds_cut _ (47 ∷ 47 ∷ s) found (c.Gap (2 + prefix_len is_within_line (s ++ rest))) (2 + prefix_len is_within_line (s ++ rest)) refl refl (omega (arith, all_le is_within_line s rest h)) (λ z. e)

lacks_tail : (x : ℕ) (s : List ℕ) → LacksClose (x ∷ s) → LacksClose s
lacks_tail x s h before after e = h (x ∷ before) after (ap (λ (ys : List ℕ). x ∷ ys) e)

no_close : (x : ℕ) (s rest : List ℕ) → LacksClose (x ∷ (s ++ 42 ∷ [])) → (x == 42 && begins_slash (s ++ 42 ∷ 47 ∷ rest)) ≡ false
no_close x [] rest h = never (x == 42)
  where
    never : (b : Bool) → (b && false) ≡ false
    never true = refl
    never false = refl
no_close x (d ∷ s) rest h = by_cases (x == 42) (d == 47) refl refl
  where
    by_cases : (a b : Bool) → (x == 42) ≡ a → (d == 47) ≡ b → (a && b) ≡ false
    by_cases false b p q = refl
    by_cases true false p q = refl
    by_cases true true p q = absurd (h [] (s ++ 42 ∷ []) (rw (eqb-true x 42 p, eqb-true d 47 q) refl))

block_len_is : (s rest : List ℕ) → LacksClose (s ++ 42 ∷ []) → block_len (s ++ 42 ∷ 47 ∷ rest) ≡ Some (length s + 2)
block_len_is [] rest h = refl
block_len_is (x ∷ s) rest h =
    rw (no_close x s rest h, block_len_is s rest (lacks_tail x (s ++ 42 ∷ []) h)) (ap Some (omega arith))

block_finds : (s rest : List ℕ) (found : List Lexeme) → LacksClose (s ++ 42 ∷ []) → found ≡ [] → Finds (47 ∷ 42 ∷ (s ++ 42 ∷ 47 ∷ rest)) (47 ∷ 42 ∷ (s ++ 42 ∷ 47 ∷ [])) found
unfolding front other_front
block_finds s rest found h e =
    finds_cut _ (47 ∷ 42 ∷ (s ++ 42 ∷ 47 ∷ [])) found (block (Some (length s + 2))) (2 + (length s + 2)) (ap block (block_len_is s rest h)) refl (omega (arith, length-append s (42 ∷ 47 ∷ []))) (λ z. e)

-- ---- signs

-- a sign of this length stands at the front, or a longer one
record FindsSign (o : Cut) (sign : Sign) (n : ℕ) : Type 0 where
  len : ℕ
  is_len : front_len o ≡ Some len
  enough : n ≤ len
  gives : len ≡ n → FrontGives o (l.Sign sign ∷ [])

or_else_some : (o : Option Sign) (n : ℕ) (other : Cut) (sign : Sign) → o ≡ Some sign → FindsSign (or_else o n other) sign n
or_else_some o n other sign e = subst (λ (y : Option Sign). FindsSign (or_else y n other) sign n) (sym e) (record { len = n; is_len = refl; enough = omega arith; gives = λ z. refl })

or_else_more : (o : Option Sign) (n m : ℕ) (other : Cut) (sign : Sign) → m < n → FindsSign other sign m → FindsSign (or_else o n other) sign m
or_else_more None n m other sign lt q = q
or_else_more (Some found) n m other sign lt q = record { len = n; is_len = refl; enough = omega arith; gives = λ z. absurd (omega arith) }

one_at : (a : ℕ) (rest : List ℕ) (sign : Sign) → one a ≡ Some sign → FindsSign (sign_at (a ∷ rest)) sign 1
one_at a [] sign e = or_else_some (one a) 1 c.Stop sign e
one_at a (b ∷ []) sign e = or_else_more (two a b) 2 1 (one_sign a) sign (omega arith) (or_else_some (one a) 1 c.Stop sign e)
one_at a (b ∷ d ∷ rest) sign e = or_else_more (three a b d) 3 1 (two_signs a b) sign (omega arith) (or_else_more (two a b) 2 1 (one_sign a) sign (omega arith) (or_else_some (one a) 1 c.Stop sign e))

two_at : (a b : ℕ) (rest : List ℕ) (sign : Sign) → two a b ≡ Some sign → FindsSign (sign_at (a ∷ b ∷ rest)) sign 2
two_at a b [] sign e = or_else_some (two a b) 2 (one_sign a) sign e
two_at a b (d ∷ rest) sign e = or_else_more (three a b d) 3 2 (two_signs a b) sign (omega arith) (or_else_some (two a b) 2 (one_sign a) sign e)

three_at : (a b d : ℕ) (rest : List ℕ) (sign : Sign) → three a b d ≡ Some sign → FindsSign (sign_at (a ∷ b ∷ d ∷ rest)) sign 3
three_at a b d rest sign e = or_else_some (three a b d) 3 (two_signs a b) sign e

over_at : (rest : List ℕ) → (OpensComment (47 ∷ rest) → ⊥) → FindsSign (slash rest) g.Over 1
over_at [] n = record { len = 1; is_len = refl; enough = omega arith; gives = λ z. refl }
over_at (x ∷ rest) n = by_bools (x == 47) (x == 42) refl refl
  where
    by_bools : (a b : Bool) → (x == 47) ≡ a → (x == 42) ≡ b → FindsSign (cond a (c.Gap (2 + prefix_len is_within_line rest)) (cond b (block (block_len rest)) (c.Whole (l.Sign g.Over) 1))) g.Over 1
    by_bools true b p q = absurd (n (rest, inl (ap (λ y. 47 ∷ y ∷ rest) (eqb-true x 47 p))))
    by_bools false true p q = absurd (n (rest, inr (ap (λ y. 47 ∷ y ∷ rest) (eqb-true x 42 q))))
    by_bools false false p q = record { len = 1; is_len = refl; enough = omega arith; gives = λ z. refl }

sign_front : (sign : Sign) (rest : List ℕ) → (OpensComment (sign_text sign ++ rest) → ⊥) → FindsSign (front (sign_text sign ++ rest)) sign (length (sign_text sign))
unfolding front other_front
sign_front g.Or rest n = two_at 124 124 rest g.Or refl
sign_front g.And rest n = two_at 38 38 rest g.And refl
sign_front g.Same rest n = three_at 61 61 61 rest g.Same refl
sign_front g.NotSame rest n = three_at 33 61 61 rest g.NotSame refl
sign_front g.Equal rest n = two_at 61 61 rest g.Equal refl
sign_front g.NotEqual rest n = two_at 33 61 rest g.NotEqual refl
sign_front g.Less rest n = one_at 60 rest g.Less refl
sign_front g.LessEqual rest n = two_at 60 61 rest g.LessEqual refl
sign_front g.Greater rest n = one_at 62 rest g.Greater refl
sign_front g.GreaterEqual rest n = two_at 62 61 rest g.GreaterEqual refl
sign_front g.Plus rest n = one_at 43 rest g.Plus refl
sign_front g.Minus rest n = one_at 45 rest g.Minus refl
sign_front g.Times rest n = one_at 42 rest g.Times refl
sign_front g.Over rest n = over_at rest n
sign_front g.Rem rest n = one_at 37 rest g.Rem refl
sign_front g.Not rest n = one_at 33 rest g.Not refl
sign_front g.Set rest n = one_at 61 rest g.Set refl
sign_front g.AddTo rest n = two_at 43 61 rest g.AddTo refl
sign_front g.TakeFrom rest n = two_at 45 61 rest g.TakeFrom refl
sign_front g.Question rest n = one_at 63 rest g.Question refl
sign_front g.Colon rest n = one_at 58 rest g.Colon refl
sign_front g.Semicolon rest n = one_at 59 rest g.Semicolon refl
sign_front g.Comma rest n = one_at 44 rest g.Comma refl
sign_front g.Dot rest n = one_at 46 rest g.Dot refl
sign_front g.RoundOpen rest n = one_at 40 rest g.RoundOpen refl
sign_front g.RoundClose rest n = one_at 41 rest g.RoundClose refl
sign_front g.SquareOpen rest n = one_at 91 rest g.SquareOpen refl
sign_front g.SquareClose rest n = one_at 93 rest g.SquareClose refl
sign_front g.CurlyOpen rest n = one_at 123 rest g.CurlyOpen refl
sign_front g.CurlyClose rest n = one_at 125 rest g.CurlyClose refl

mark_finds : (s rest : List ℕ) (sign : Sign) (found : List Lexeme) → s ≡ sign_text sign → (OpensComment (s ++ rest) → ⊥) → found ≡ l.Sign sign ∷ [] → Finds (s ++ rest) s found
mark_finds s rest sign found e n h =
    let q = sign_front sign rest (λ o. n (subst (λ (ys : List ℕ). OpensComment (ys ++ rest)) (sym e) o)) in
    subst (λ (ys : List ℕ). Finds (ys ++ rest) ys found) (sym e)
    (record { len = q.len; is_len = q.is_len; enough = q.enough; gives = λ z. subst (λ (y : List Lexeme). FrontGives (front (sign_text sign ++ rest)) y) (sym h) (q.gives z) })

pub form_finds : (kind : Kind) (s rest : List ℕ) (found : List Lexeme) → HasForm kind s rest → StandsFor kind s found → Finds (s ++ rest) s found
form_finds Blank s rest found h e = subst (λ (ys : List ℕ). Finds (ys ++ rest) ys found) (sym h.2) (blank_finds h.0 h.1 rest found (subst (EachPasses is_space) h.2 h.3) e)
form_finds LineComment s rest found h e = subst (λ (ys : List ℕ). Finds (ys ++ rest) ys found) (sym h.1) (line_finds h.0 rest found h.2 e)
form_finds BlockComment s rest found h e =
    subst (λ (ys : List ℕ). Finds (ys ++ rest) ys found) (sym h.1)
    (subst (λ (ys : List ℕ). Finds (47 ∷ 42 ∷ ys) (47 ∷ 42 ∷ (h.0 ++ 42 ∷ 47 ∷ [])) found) (sym (append_assoc h.0 (42 ∷ 47 ∷ []) rest)) (block_finds h.0 rest found h.2 e))
form_finds Word s rest found h e = subst (λ (ys : List ℕ). Finds (ys ++ rest) ys found) (sym h.2) (word_finds h.0 h.1 rest found h.3 h.4 (e ∙ ap (λ (y : List ℕ). l.Word y ∷ []) h.2))
form_finds Number s rest found h e = subst (λ (ys : List ℕ). Finds (ys ++ rest) ys found) (sym h.2) (number_finds h.0 h.1 rest found h.3 h.4 h.5 (e ∙ ap (λ (y : List ℕ). number_lexeme y ∷ []) h.2))
form_finds Str s rest found h e = string_finds s rest e.0 found e.1 e.2
form_finds Mark s rest found h e = mark_finds s rest e.0 found e.1 h.2 e.2

-- ---- so the front is the longest, and gives the lexemes of every longest slice

gives_some : (kind : Kind) (s rest : List ℕ) → HasForm kind s rest → (found : List Lexeme) × StandsFor kind s found
gives_some Blank s rest h = ([], refl)
gives_some LineComment s rest h = ([], refl)
gives_some BlockComment s rest h = ([], refl)
gives_some Word s rest h = (l.Word s ∷ [], refl)
gives_some Number s rest h = (number_lexeme s ∷ [], refl)
gives_some Str s rest h = (l.Str h.0 ∷ [], (h.0, h.1, refl))
gives_some Mark s rest h = (l.Sign h.0 ∷ [], (h.0, h.1, refl))

pub same_len : (a b : ℕ) → Some a ≡ Some b → a ≡ b
same_len a b h = cc

-- the kind of what was cut
pub record CutAs (text : List ℕ) (n : ℕ) (found : List Lexeme) : Type 0 where
  pub kind : Kind
  pub fits : Fits kind text n
  pub gives : StandsFor kind (take n text) found

abbrev CutsSome : List ℕ → Cut → Type 0
CutsSome text o = (n : ℕ) → front_len o ≡ Some n → (found : List Lexeme) × FrontGives o found × CutAs text n found

cuts_some : (text : List ℕ) (o : Cut) → Sound text o → CutsSome text o
cuts_some text c.End h n e = absurd cc
cuts_some text c.Stop h n e = absurd cc
cuts_some text (c.Gap m) h n e = ([], refl, subst (λ k. CutAs text k []) (same_len m n e) (record { kind = h.0; fits = h.1; gives = h.2 }))
cuts_some text (c.Whole x m) h n e = (x ∷ [], refl, subst (λ k. CutAs text k (x ∷ [])) (same_len m n e) (record { kind = h.0; fits = h.1; gives = h.2 }))

taken_len : (n : ℕ) (text : List ℕ) → n ≤ length text → length (take n text) ≡ n
taken_len n text h = omega (arith, length-take n text)

-- what is cut is the longest
pub cut_longest : (text : List ℕ) (n : ℕ) (found : List Lexeme) (q : CutAs text n found) → front_len (front text) ≡ Some n → Longest q.kind (take n text) (drop n text)
cut_longest text n found q e = record {
  form = q.fits.form;
  longest = λ other longer rest h form.
      let some = gives_some other longer rest form in
      let finds = form_finds other longer rest some.0 form some.1 in
      let same : finds.len ≡ n = same_len finds.len n (sym finds.is_len ∙ ap (λ (ys : List ℕ). front_len (front ys)) (sym h ∙ take-append-drop n text) ∙ e) in
      no_longer (length longer) finds.len n (length (take n text)) finds.enough same (taken_len n text q.fits.within);
}
  where
    no_longer : (a b n m : ℕ) → a ≤ b → b ≡ n → m ≡ n → a ≤ m
    no_longer a b n m h j k = omega arith

pub longest_cut : (kind : Kind) (s rest : List ℕ) (found : List Lexeme) → Longest kind s rest → StandsFor kind s found → (front_len (front (s ++ rest)) ≡ Some (length s)) × FrontGives (front (s ++ rest)) found
longest_cut kind s rest found h e =
    let finds = form_finds kind s rest found h.form e in
    let some = cuts_some (s ++ rest) (front (s ++ rest)) (front_sound (s ++ rest)) finds.len finds.is_len in
    let le : length (take finds.len (s ++ rest)) ≤ length s = h.longest some.2.kind (take finds.len (s ++ rest)) (drop finds.len (s ++ rest)) (sym (take-append-drop finds.len (s ++ rest))) some.2.fits.form in
    let same : finds.len ≡ length s = exact (length s) finds.len (length (take finds.len (s ++ rest))) finds.enough le (taken_len finds.len (s ++ rest) some.2.fits.within) in
    (finds.is_len ∙ ap Some same, finds.gives same)
  where
    exact : (a b m : ℕ) → a ≤ b → m ≤ a → m ≡ b → b ≡ a
    exact a b m h j k = omega arith

pub none_len : (n : ℕ) → None ≡ Some n → ⊥
none_len n h = cc

pub stop_no_form : (text : List ℕ) → front text ≡ c.Stop → NoForm text
stop_no_form text e kind s rest h form =
    let some = gives_some kind s rest form in
    let finds = form_finds kind s rest some.0 form some.1 in
    none_len finds.len (sym (ap front_len e) ∙ ap (λ (ys : List ℕ). front_len (front ys)) h ∙ finds.is_len)
