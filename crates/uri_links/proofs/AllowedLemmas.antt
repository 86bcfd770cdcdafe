-- Texts of allowed characters, and the references that are put together from them.
use Rattle.std.proofs.Common.{◌≡◌, ℕ, Bool, true, false, ◌&&◌, ◌||◌, eqb, List, [], ◌∷◌, ◌++◌, get_or, take, drop, refl, ap, sym, ◌∙◌, inl, inr, arith, codes}
use Rattle.std.specs.List.{list_all}
use Rattle.std.specs.Char.{is_ascii_alphabetic, is_ascii_alphanumeric, is_ascii_hexdigit}
use Rattle.std.proofs.lemmas.List.{take-append-drop, append-nil}
use Rattle.std.proofs.lemmas.Bool.{false≢true, and_parts, and_from, or_cases, or_left, or_right, or_from, or_parts, eqb-true, false_from_ne_true}
use Rattle.std.proofs.lemmas.Bool.Decides.{nat_tests}
use Rattle.vg_base.proofs.Ascii.{passes, is_small}
use Rattle.uri_links.specs.Split.{has, before, from, slash, colon, question, hash}
use Rattle.uri_links.specs.Parts.{HasNone, IsEmptyOrRooted}
use Rattle.uri_links.specs.Allowed.{is_scheme, is_scheme_character, is_allowed, begins_hexadecimal, are_allowed}
use Rattle.uri_links.proofs.SplitLemmas.{parted, rooted-from}

-- The test of one character, when more or less text stands behind it.
same_test : (a b c d : Bool) → (b ≡ true → c ≡ true → d ≡ true) → (a || (b && c)) ≡ true → (a || (b && d)) ≡ true
same_test true b c d f h = refl
same_test false true c d f h = f refl h
same_test false false c d f h = h

hexadecimal-append : (xs ys : List ℕ) → begins_hexadecimal xs ≡ true → begins_hexadecimal (xs ++ ys) ≡ true
hexadecimal-append [] ys h = absurd (false≢true h)
hexadecimal-append (x ∷ []) ys h = absurd (false≢true (and_parts (is_ascii_hexdigit x) false h).1)
hexadecimal-append (x ∷ y ∷ xs) ys h = h

hexadecimal-front : (xs : List ℕ) (c : ℕ) (ys : List ℕ) → is_ascii_hexdigit c ≡ false → begins_hexadecimal (xs ++ c ∷ ys) ≡ true → begins_hexadecimal xs ≡ true
hexadecimal-front [] c ys n h = absurd (false≢true (sym n ∙ (and_parts (is_ascii_hexdigit c) (is_ascii_hexdigit (get_or ys 0 0)) h).0))
hexadecimal-front (x ∷ []) c ys n h = absurd (false≢true (sym n ∙ (and_parts (is_ascii_hexdigit x) (is_ascii_hexdigit c) h).1))
hexadecimal-front (x ∷ y ∷ xs) c ys n h = h

module _ (also : List ℕ) where
  pub allowed-append : (xs ys : List ℕ) → are_allowed also xs ≡ true → are_allowed also ys ≡ true → are_allowed also (xs ++ ys) ≡ true
  allowed-append [] ys h g = g
  allowed-append (x ∷ xs) ys h g =
      let p = and_parts (is_allowed also x || (eqb x 37 && begins_hexadecimal xs)) (are_allowed also xs) h in
      and_from (is_allowed also x || (eqb x 37 && begins_hexadecimal (xs ++ ys))) (are_allowed also (xs ++ ys))
      (same_test (is_allowed also x) (eqb x 37) (begins_hexadecimal xs) (begins_hexadecimal (xs ++ ys)) (λ _ b. hexadecimal-append xs ys b) p.0)
      (allowed-append xs ys p.1 g)

  pub allowed-front : (xs : List ℕ) (c : ℕ) (ys : List ℕ) → is_ascii_hexdigit c ≡ false → are_allowed also (xs ++ c ∷ ys) ≡ true → are_allowed also xs ≡ true
  allowed-front [] c ys n h = refl
  allowed-front (x ∷ xs) c ys n h =
      let p = and_parts (is_allowed also x || (eqb x 37 && begins_hexadecimal (xs ++ c ∷ ys))) (are_allowed also (xs ++ c ∷ ys)) h in
      and_from (is_allowed also x || (eqb x 37 && begins_hexadecimal xs)) (are_allowed also xs)
      (same_test (is_allowed also x) (eqb x 37) (begins_hexadecimal (xs ++ c ∷ ys)) (begins_hexadecimal xs) (λ _ b. hexadecimal-front xs c ys n b) p.0)
      (allowed-front xs c ys n p.1)

  pub allowed-back : (xs ys : List ℕ) → are_allowed also (xs ++ ys) ≡ true → are_allowed also ys ≡ true
  allowed-back [] ys h = h
  allowed-back (x ∷ xs) ys h = allowed-back xs ys (and_parts (is_allowed also x || (eqb x 37 && begins_hexadecimal (xs ++ ys))) (are_allowed also (xs ++ ys)) h).1

  pub allowed-drop : (n : ℕ) (xs : List ℕ) → are_allowed also xs ≡ true → are_allowed also (drop n xs) ≡ true
  allowed-drop n xs h = allowed-back (take n xs) (drop n xs) (ap (are_allowed also) (take-append-drop n xs) ∙ h)

  pub allowed-from : (c : ℕ) (xs : List ℕ) → are_allowed also xs ≡ true → are_allowed also (from c xs) ≡ true
  allowed-from c xs h = allowed-back (before c xs) (from c xs) (ap (are_allowed also) (parted c xs) ∙ h)

  -- up to a slash, which is no hexadecimal digit
  pub allowed-before : (xs : List ℕ) → are_allowed also xs ≡ true → are_allowed also (before slash xs) ≡ true
  allowed-before xs h = go (from slash xs) (rooted-from xs) (ap (are_allowed also) (parted slash xs) ∙ h)
    where
      go : (r : List ℕ) → IsEmptyOrRooted r → are_allowed also (before slash xs ++ r) ≡ true → are_allowed also (before slash xs) ≡ true
      go [] e g = ap (are_allowed also) (sym (append-nil (before slash xs))) ∙ g
      go (x ∷ r) e g = allowed-front (before slash xs) slash r refl (ap (λ y. are_allowed also (before slash xs ++ y ∷ r)) (sym e) ∙ g)

  -- a character that isn't allowed stands nowhere
  pub allowed-none : (c : ℕ) (xs : List ℕ) → is_allowed also c ≡ false → eqb c 37 ≡ false → are_allowed also xs ≡ true → has c xs ≡ false
  allowed-none c [] n p h = refl
  allowed-none c (x ∷ xs) n p h =
      let q = and_parts (is_allowed also x || (eqb x 37 && begins_hexadecimal xs)) (are_allowed also xs) h in
      or_from (eqb x c) (has c xs)
      (false_from_ne_true (eqb x c) (λ e.
      let same : x ≡ c = eqb-true x c e in
      let fails : (is_allowed also x || (eqb x 37 && begins_hexadecimal xs)) ≡ false =
      or_from (is_allowed also x) (eqb x 37 && begins_hexadecimal xs) (ap (is_allowed also) same ∙ n) (ap (λ b. b && begins_hexadecimal xs) (ap (λ y. eqb y 37) same ∙ p)) in
      false≢true (sym fails ∙ q.0)))
      (allowed-none c xs n p q.1)

-- a path without a slash may stand as an authority
pub allowed-narrow : (xs : List ℕ) → are_allowed (codes "/") xs ≡ true → has slash xs ≡ false → are_allowed (codes "[]") xs ≡ true
allowed-narrow [] h n = refl
allowed-narrow (x ∷ xs) h n =
    let p = and_parts (is_allowed (codes "/") x || (eqb x 37 && begins_hexadecimal xs)) (are_allowed (codes "/") xs) h in
    let m = or_parts (eqb x slash) (has slash xs) n in
    and_from (is_allowed (codes "[]") x || (eqb x 37 && begins_hexadecimal xs)) (are_allowed (codes "[]") xs)
    (elim (or_cases (is_allowed (codes "/") x) (eqb x 37 && begins_hexadecimal xs) p.0) [
      | inl a ↦ or_left (is_allowed (codes "[]") x) (eqb x 37 && begins_hexadecimal xs) (elim (or_cases (is_ascii_alphanumeric x || has x (codes "-._~!$&'()*+,;=:@")) (has x (codes "/")) a) [
        | inl b ↦ or_left (is_ascii_alphanumeric x || has x (codes "-._~!$&'()*+,;=:@")) (has x (codes "[]")) b
        | inr b ↦ absurd (false≢true (sym m.0 ∙ slash_in x b))
      ])
      | inr a ↦ or_right (is_allowed (codes "[]") x) (eqb x 37 && begins_hexadecimal xs) a
    ])
    (allowed-narrow xs p.1 m.1)
  where
    slash_in : (x : ℕ) → has x (codes "/") ≡ true → eqb x slash ≡ true
    slash_in x h = ap (λ y. eqb y slash) (sym (eqb-true slash x (elim (or_cases (eqb slash x) false h) [ inl e ↦ e | inr e ↦ absurd (false≢true e) ])))

-- Allowed characters are of ASCII.
alphanumeric_small : (c : ℕ) → is_ascii_alphanumeric c ≡ true → is_small c ≡ true
alphanumeric_small c h = grind (arith, nat_tests)

pub allowed_small : (also xs : List ℕ) → list_all is_small also ≡ true → are_allowed also xs ≡ true → list_all is_small xs ≡ true
allowed_small also [] a h = refl
allowed_small also (x ∷ xs) a h =
    let p = and_parts (is_allowed also x || (eqb x 37 && begins_hexadecimal xs)) (are_allowed also xs) h in
    and_from (is_small x) (list_all is_small xs)
    (elim (or_cases (is_allowed also x) (eqb x 37 && begins_hexadecimal xs) p.0) [
      | inl b ↦ elim (or_cases (is_ascii_alphanumeric x || has x (codes "-._~!$&'()*+,;=:@")) (has x also) b) [
        | inl d ↦ elim (or_cases (is_ascii_alphanumeric x) (has x (codes "-._~!$&'()*+,;=:@")) d) [
          | inl e ↦ alphanumeric_small x e
          | inr e ↦ passes is_small (codes "-._~!$&'()*+,;=:@") x refl e
        ]
        | inr d ↦ passes is_small also x a d
      ]
      | inr b ↦ ap is_small (eqb-true x 37 (and_parts (eqb x 37) (begins_hexadecimal xs) b).0)
    ])
    (allowed_small also xs a p.1)

-- a scheme
scheme_character_small : (c : ℕ) → is_scheme_character c ≡ true → is_small c ≡ true
scheme_character_small c h = elim (or_cases (is_ascii_alphanumeric c) (has c (codes "+-.")) h) [
  | inl e ↦ alphanumeric_small c e
  | inr e ↦ passes is_small (codes "+-.") c refl e
]

alphabetic : (c : ℕ) → is_ascii_alphabetic c ≡ true → is_scheme_character c ≡ true
alphabetic c h = or_left (is_ascii_alphanumeric c) (has c (codes "+-.")) (letter c h)
  where
    letter : (c : ℕ) → is_ascii_alphabetic c ≡ true → is_ascii_alphanumeric c ≡ true
    letter c h = grind (arith, nat_tests)

pub scheme_characters : (s : List ℕ) → is_scheme s ≡ true → list_all is_scheme_character s ≡ true
scheme_characters [] h = absurd (false≢true h)
scheme_characters (c ∷ s) h =
    let p = and_parts (is_ascii_alphabetic c) (list_all is_scheme_character s) h in
    and_from (is_scheme_character c) (list_all is_scheme_character s) (alphabetic c p.0) p.1

all_small : (s : List ℕ) → list_all is_scheme_character s ≡ true → list_all is_small s ≡ true
all_small [] h = refl
all_small (c ∷ s) h =
    let p = and_parts (is_scheme_character c) (list_all is_scheme_character s) h in
    and_from (is_small c) (list_all is_small s) (scheme_character_small c p.0) (all_small s p.1)

pub scheme_small : (s : List ℕ) → is_scheme s ≡ true → list_all is_small s ≡ true
scheme_small s h = all_small s (scheme_characters s h)

none_of : (c : ℕ) (s : List ℕ) → is_scheme_character c ≡ false → list_all is_scheme_character s ≡ true → has c s ≡ false
none_of c [] n h = refl
none_of c (x ∷ s) n h =
    let p = and_parts (is_scheme_character x) (list_all is_scheme_character s) h in
    or_from (eqb x c) (has c s) (false_from_ne_true (eqb x c) (λ e. false≢true (sym n ∙ (ap is_scheme_character (sym (eqb-true x c e)) ∙ p.0)))) (none_of c s n p.1)

pub scheme_has_none : (s : List ℕ) → is_scheme s ≡ true → HasNone (codes ":/?#") s
scheme_has_none s h =
    let all = scheme_characters s h in
    (none_of colon s refl all, (none_of slash s refl all, (none_of question s refl all, (none_of hash s refl all, tt))))
