-- Lemmas on words of texts.
use Rattle.std.proofs.Common.{◌≡◌, ℕ, ◌+◌, ◌<◌, get_or, zero-add, add-zero, add_assoc, Bool, true, false, List, [], ◌∷◌, ◌++◌, length, take, nat_eq, inl, inr, arith, length-take, refl, sym, ap, ◌∙◌, append_assoc, cond}
use Rattle.std.specs.List.{All, filter, slice_split, join_with_byte}
use Rattle.std.proofs.lemmas.List.Splits.{slice_split_none, slice_split_at}
use Rattle.std.proofs.lemmas.List.{take_more}
use Rattle.std.proofs.lemmas.Bool.{eqb-true}
use Rattle.std.proofs.lemmas.Bool.Decides.{eqb_tells}
use Rattle.vg_base.specs.Characters.{is_space, byte_len}
use Rattle.server_shell.specs.first_form.Words.{has_character, words_in, bytes_in}

filter-cons : (part : List ℕ) (parts : List (List ℕ))
    → filter has_character (part ∷ parts) ≡ filter has_character
    (part ∷ []) ++ filter has_character parts
filter-cons part parts =
    elim (has_character part) as (λ b. cond b (part ∷ filter has_character parts)
    (filter has_character parts) ≡ cond b (part ∷ []) [] ++ filter has_character parts)
    [ true ↦ refl | false ↦ refl ]

-- the words before white space, and those behind it
pub words_in-at : (text part rest : List ℕ) (y : ℕ) → All (λ x. is_space x ≡ false) part
    → (is_space y ≡ true) × (text ≡ part ++ y ∷ rest)
    → words_in text ≡ filter has_character (part ∷ []) ++ words_in rest
words_in-at text part rest y none (is, cut) = ap words_in cut
    ∙ ap (filter has_character) (slice_split_at is_space part y rest none is)
    ∙ filter-cons part (slice_split is_space rest)

-- a text without white space has one part
pub words_in-none : (text : List ℕ) → All (λ x. is_space x ≡ false) text
    → words_in text ≡ filter has_character (text ∷ [])
words_in-none text none = ap (filter has_character) (slice_split_none is_space text none)

bytes_in-append : (xs ys : List (List ℕ)) → bytes_in (xs ++ ys) ≡ bytes_in xs + bytes_in ys
bytes_in-append [] ys = sym (zero-add (bytes_in ys))
bytes_in-append (x ∷ xs) ys = ap (λ n. byte_len x + n) (bytes_in-append xs ys)
    ∙ sym (add_assoc (byte_len x) (bytes_in xs) (bytes_in ys))

-- one more word
pub bytes_in-more : (xs : List (List ℕ)) (i : ℕ) (x : List ℕ) → i < length xs → get_or xs i x ≡ x
    → bytes_in (take (i + 1) xs) ≡ bytes_in (take i xs) + byte_len x
bytes_in-more xs i x low is =
    ap bytes_in (take_more xs i x low ∙ ap (λ w. take i xs ++ w ∷ []) is)
    ∙ bytes_in-append (take i xs) (x ∷ [])
    ∙ ap (λ n. bytes_in (take i xs) + n) (add-zero (byte_len x))

joined-append : (x : List ℕ) (xs : List (List ℕ)) (y : List ℕ)
    → join_with_byte 32 (x ∷ (xs ++ y ∷ [])) ≡ join_with_byte 32 (x ∷ xs) ++ 32 ∷ y
joined-append x [] y = refl
joined-append x (z ∷ zs) y = ap (λ l. x ++ 32 ∷ l) (joined-append z zs y)
    ∙ sym (append_assoc x (32 ∷ join_with_byte 32 (z ∷ zs)) (32 ∷ y))

joined-some : (xs : List (List ℕ)) (y : List ℕ) → 0 < length xs
    → join_with_byte 32 (xs ++ y ∷ []) ≡ join_with_byte 32 xs ++ 32 ∷ y
joined-some [] y h = absurd (omega arith)
joined-some (x ∷ xs) y h = joined-append x xs y

-- the first word, and one more word
pub joined-first : (xs : List (List ℕ)) (i : ℕ) (x : List ℕ) → i ≡ 0 → i < length xs
    → get_or xs i x ≡ x → join_with_byte 32 (take (i + 1) xs) ≡ x
joined-first xs i x none low is = ap (join_with_byte 32) (take_more xs i x low
    ∙ ap (λ w. take i xs ++ w ∷ []) is ∙ ap (λ n. take n xs ++ x ∷ []) none)

pub joined-more : (xs : List (List ℕ)) (i : ℕ) (x : List ℕ) → 0 < i → i < length xs
    → get_or xs i x ≡ x → join_with_byte 32 (take (i + 1) xs) ≡ join_with_byte 32
    (take i xs) ++ 32 ∷ x
joined-more xs i x some low is =
    ap (join_with_byte 32) (take_more xs i x low ∙ ap (λ w. take i xs ++ w ∷ []) is)
    ∙ joined-some (take i xs) x (omega (arith, length-take i xs))

-- behind a word no word is the first
pub not_first : (i : ℕ) → false ≡ nat_eq (i + 1) 0
not_first i = elim (eqb_tells (i + 1) 0) [
  | inl (e, same) ↦ absurd (omega arith)
  | inr (
    e,
    other,
  ) ↦ sym e
]

pub index-some : (i : ℕ) (first : Bool) → first ≡ nat_eq i 0 → first ≡ false → 0 < i
index-some i first e f = elim (eqb_tells i 0) [
  | inl (g, same) ↦ absurd (let h : true ≡ false = sym g
      ∙ sym e ∙ f in cc)
  | inr (g, other) ↦ omega (arith, other)
]

pub index-none : (i : ℕ) (first : Bool) → first ≡ nat_eq i 0 → first ≡ true → i ≡ 0
index-none i first e f = eqb-true i 0 (sym e ∙ f)
