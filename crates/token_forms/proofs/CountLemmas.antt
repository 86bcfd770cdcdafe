-- What the words of a text cost: one for each word that begins, and the bytes of each character that isn't white space (`counted`).
use Rattle.std.proofs.Common.{◌≡◌, ℕ, ◌+◌, ◌<◌, ◌≤◌, ◌⊎◌, inl, inr, Bool, true, false, not, if◌then◌else◌, List, [], ◌∷◌, ◌++◌, length, refl, ap, sym, ◌∙◌, subst, arith, append-nil, length-append}
use Rattle.std.specs.List.{list_all}
use Rattle.std.specs.Char.{encode_utf8}
use Rattle.std.specs.Str.{encode_utf8_all}
use Rattle.std.proofs.lemmas.Bool.{and_parts}
use Rattle.std.proofs.lemmas.Str.{length-le-encodes}
use Rattle.vg_base.specs.Characters.{is_space, byte_len}
use Rattle.vg_base.specs.Cut.{Piece, Cuts}
use Rattle.vg_base.specs.Runs.{begins}
use Rattle.token_forms.specs.Counts.{bytes_of, IsWithin}
use Rattle.token_forms.specs.Words.{Stretch, Space, Spoken, is_spoken, IsWordHere, HasForm, words_in, AreWords, AreWordsOf}
use Rattle.token_forms.specs.code.Taken.{word_cost, byte_cost, Leaves}
use Rattle.token_forms.specs.declared.counts.Amount.{Amount}
use Rattle.token_forms.proofs.WordLemmas.{one_lists, words_more, words_parted}

-- how many words begin in a text, within a word or not
abbrev pub starts : Bool → List ℕ → ℕ
starts inside [] = 0
starts inside (c ∷ text) = word_cost inside c + starts (not (is_space c)) text

-- the bytes of a text's words
abbrev pub spoken_bytes : List ℕ → ℕ
spoken_bytes [] = 0
spoken_bytes (c ∷ text) = byte_cost c + spoken_bytes text

-- ---- over a stretch

word_cost-space : (inside : Bool) (c : ℕ) → is_space c ≡ true → word_cost inside c ≡ 0
word_cost-space inside c s = ap (λ b. if b then 0 else if inside then 0 else 1) s

byte_cost-space : (c : ℕ) → is_space c ≡ true → byte_cost c ≡ 0
byte_cost-space c s = ap (λ b. if b then 0 else length (encode_utf8 c)) s

over_space : (run rest : List ℕ) → list_all is_space run ≡ true → (starts false (run ++ rest) ≡ starts false rest) × (spoken_bytes (run ++ rest) ≡ spoken_bytes rest)
over_space [] rest h = (refl, refl)
over_space (c ∷ run) rest h =
    let p = and_parts (is_space c) (list_all is_space run) h in
    let more = over_space run rest p.1 in
    let behind : starts (not (is_space c)) (run ++ rest) ≡ starts false (run ++ rest) = ap (λ b. starts (not b) (run ++ rest)) p.0 in
    (omega (arith, word_cost-space false c p.0, behind, more.0), omega (arith, byte_cost-space c p.0, more.1))

spoken_false : (b : Bool) → not b ≡ true → b ≡ false
spoken_false true h = cc
spoken_false false h = refl

-- within a word
over_spoken : (run rest : List ℕ) → list_all is_spoken run ≡ true → (starts true (run ++ rest) ≡ starts true rest) × (spoken_bytes (run ++ rest) ≡ byte_len run + spoken_bytes rest)
over_spoken [] rest h = (refl, omega arith)
over_spoken (c ∷ run) rest h =
    let p = and_parts (is_spoken c) (list_all is_spoken run) h in
    let no : is_space c ≡ false = spoken_false (is_space c) p.0 in
    let more = over_spoken run rest p.1 in
    let none : word_cost true c ≡ 0 = ap (λ b. if b then 0 else 0) no in
    let cost : byte_cost c ≡ length (encode_utf8 c) = ap (λ b. if b then 0 else length (encode_utf8 c)) no in
    let behind : starts (not (is_space c)) (run ++ rest) ≡ starts true (run ++ rest) = ap (λ b. starts (not b) (run ++ rest)) no in
    (omega (arith, none, behind, more.0), omega (arith, cost, more.1, length-append (encode_utf8 c) (encode_utf8_all run)))

-- behind a word none goes on
after_word : (rest : List ℕ) → begins is_spoken rest ≡ false → starts true rest ≡ starts false rest
after_word [] h = refl
after_word (c ∷ rest) h = ap (λ b. (if b then 0 else 0) + starts (not b) rest) (is c h) ∙ sym (ap (λ b. (if b then 0 else 1) + starts (not b) rest) (is c h))
  where
    is : (c : ℕ) → not (is_space c) ≡ false → is_space c ≡ true
    is c h = spaced (is_space c) h
      where
        spaced : (b : Bool) → not b ≡ false → b ≡ true
        spaced true h = refl
        spaced false h = cc

over_word : (run rest : List ℕ) → IsWordHere run rest → (starts false (run ++ rest) ≡ 1 + starts false rest) × (spoken_bytes (run ++ rest) ≡ byte_len run + spoken_bytes rest)
over_word [] rest h = absurd (h.some refl)
over_word (c ∷ run) rest h =
    let p = and_parts (is_spoken c) (list_all is_spoken run) h.run.each in
    let no : is_space c ≡ false = spoken_false (is_space c) p.0 in
    let one : word_cost false c ≡ 1 = ap (λ b. if b then 0 else 1) no in
    let behind : starts (not (is_space c)) (run ++ rest) ≡ starts true (run ++ rest) = ap (λ b. starts (not b) (run ++ rest)) no in
    (omega (arith, one, behind, (over_spoken run rest p.1).0, after_word rest h.run.ends), (over_spoken (c ∷ run) rest h.run.each).1)

-- ---- over a text

-- so many words, of so many bytes
pub record Counted (text : List ℕ) (all : List (List ℕ)) : Type 0 where
  pub words : starts false text ≡ length all
  pub bytes : spoken_bytes text ≡ bytes_of all

counted_cut : (text : List ℕ) (stretches : List (Piece Stretch)) → Cuts HasForm text stretches [] → Counted text (words_in stretches)
counted_cut text [] c = record { words = ap (starts false) c; bytes = ap spoken_bytes c }
counted_cut text (p ∷ ps) c = at_kind p.kind p.slice c.1 c.2 (counted_cut c.0 ps c.3)
  where
    at_kind : (kind : Stretch) (slice : List ℕ) → text ≡ slice ++ c.0 → HasForm kind slice c.0 → Counted c.0 (words_in ps) → Counted text (words_in ((record { kind = kind; slice = slice }) ∷ ps))
    at_kind Space slice e f h =
        let over = over_space slice c.0 f.run.each in
        record { words = ap (starts false) e ∙ (over.0 ∙ h.words); bytes = ap spoken_bytes e ∙ (over.1 ∙ h.bytes) }
    at_kind Spoken slice e f h =
        let over = over_word slice c.0 f in
        let words : starts false text ≡ 1 + starts false c.0 = ap (starts false) e ∙ over.0 in
        let bytes : spoken_bytes text ≡ byte_len slice + spoken_bytes c.0 = ap spoken_bytes e ∙ over.1 in
        record { words = omega (arith, words, h.words); bytes = bytes ∙ ap (λ n. byte_len slice + n) h.bytes }

pub counted : (text : List ℕ) (words : List (List ℕ)) → AreWords words text → Counted text words
counted text words h =
    let c = counted_cut text h.0 h.1 in
    record { words = c.words ∙ ap length (sym h.2); bytes = c.bytes ∙ ap bytes_of (sym h.2) }

-- ---- an allowance

-- what is left behind a front of a text, of which this rest comes, within a word or not
pub record Spent (most left : Amount) (text : List ℕ) (inside : Bool) (rest : List ℕ) : Type 0 where
  pub words : left.words + starts false text ≡ most.words + starts inside rest
  pub bytes : left.bytes + spoken_bytes text ≡ most.bytes + spoken_bytes rest

pub begin : (most : Amount) (text : List ℕ) → Spent most most text false text
begin most text = record { words = refl; bytes = refl }

module _ {most left : Amount} {text : List ℕ} {inside : Bool} {c : ℕ} {rest : List ℕ} (h : Spent most left text inside (c ∷ rest)) where
  pub one_more : (after : Amount) (spoken : Bool) → spoken ≡ not (is_space c) → after.words + word_cost inside c ≡ left.words → after.bytes + byte_cost c ≡ left.bytes → Spent most after text spoken rest
  one_more after spoken e w b =
      let words = h.words in
      let bytes = h.bytes in
      let same : starts spoken rest ≡ starts (not (is_space c)) rest = ap (λ b. starts b rest) e in
      record { words = omega arith; bytes = omega arith }

  -- more than that is asked for
  pub too_much : (words : List (List ℕ)) → AreWords words text → (left.words < word_cost inside c) ⊎ (left.bytes < byte_cost c) → IsWithin most words → ⊥
  too_much words a (inl short) within =
      let n = (counted text words a).words in let w = within.words in let spent = h.words in omega arith
  too_much words a (inr short) within =
      let n = (counted text words a).bytes in let b = within.bytes in let spent = h.bytes in omega arith

pub all_paid : {most left : Amount} {text : List ℕ} {inside : Bool} → Spent most left text inside [] → (words : List (List ℕ)) → AreWords words text → Leaves most left words
all_paid {text = text} h words a =
    let n = counted text words a in
    let spent_words = h.words in
    let spent_bytes = h.bytes in
    let words_is = n.words in
    let bytes_is = n.bytes in
    record { words = omega arith; bytes = omega arith }

-- ---- several texts

bytes_of-append : (these those : List (List ℕ)) → bytes_of (these ++ those) ≡ bytes_of these + bytes_of those
bytes_of-append [] those = omega arith
bytes_of-append (word ∷ these) those = let more = bytes_of-append these those in omega arith

-- what is left behind the words of these texts
pub record Paid (most left : Amount) (texts : List (List ℕ)) : Type 0 where
  pub words : List (List ℕ)
  pub are : AreWordsOf words texts
  pub leaves : Leaves most left words

pub nothing_paid : (most : Amount) → Paid most most []
nothing_paid most = record { words = []; are = refl; leaves = record { words = omega arith; bytes = omega arith } }

leaves_more : {most left after : Amount} (old words : List (List ℕ)) → Leaves most left old → Leaves left after words → Leaves most after (old ++ words)
leaves_more old words h k =
    let a = h.words in
    let b = h.bytes in
    let c = k.words in
    let d = k.bytes in
    let len = length-append old words in
    let sum = bytes_of-append old words in
    record { words = omega arith; bytes = omega arith }

pub one_more_text : {most left after : Amount} {texts : List (List ℕ)} → Paid most left texts → (text : List ℕ) (words : List (List ℕ)) → AreWords words text → Leaves left after words → Paid most after (texts ++ text ∷ [])
one_more_text {texts = texts} h text words a k = record {
  words = h.words ++ words;
  are = words_more texts text h.words (h.words ++ words) h.are (words, a, refl);
  leaves = leaves_more h.words words h.leaves k;
}

-- where no more texts come, the words are within the allowance
pub all_within : {most left : Amount} {texts : List (List ℕ)} → Paid most left texts → (words : List (List ℕ)) → AreWordsOf words texts → IsWithin most words
all_within {most = most} {texts = texts} h words p =
    let a = h.leaves.words in
    let b = h.leaves.bytes in
    subst (IsWithin most) (one_lists texts h.words words h.are p) (record { words = omega arith; bytes = omega arith })

-- where one text's words are more than what is left, all are too many
pub all_too_many : {most left : Amount} {texts : List (List ℕ)} → Paid most left texts → (text : List ℕ) → ((own : List (List ℕ)) → AreWords own text → IsWithin left own → ⊥)
    → (others words : List (List ℕ)) → AreWordsOf words (texts ++ text ∷ others) → IsWithin most words → ⊥
all_too_many {texts = texts} h text short others words p within =
    let parts = words_parted texts (text ∷ others) words p in
    let own = parts.3 in
    let before : parts.0 ≡ h.words = one_lists texts parts.0 h.words parts.2 h.are in
    let a = h.leaves.words in
    let b = h.leaves.bytes in
    let c = within.words in
    let d = within.bytes in
    let len : length words ≡ length h.words + (length own.0 + length own.1) =
    ap length parts.4 ∙ (length-append parts.0 parts.1 ∙ ((λ i. length (before i) + length (own.4 i)) ∙ ap (λ n. length h.words + n) (length-append own.0 own.1))) in
    let sum : bytes_of words ≡ bytes_of h.words + (bytes_of own.0 + bytes_of own.1) =
    ap bytes_of parts.4 ∙ (bytes_of-append parts.0 parts.1 ∙ ((λ i. bytes_of (before i) + bytes_of (own.4 i)) ∙ ap (λ n. bytes_of h.words + n) (bytes_of-append own.0 own.1))) in
    short own.0 own.2 (record { words = omega arith; bytes = omega arith })

-- ---- a text has no more words than bytes

some_bytes : (c : ℕ) → 1 ≤ length (encode_utf8 c)
some_bytes c = let some = length-le-encodes (c ∷ []) in omega (arith, some, ap length (append-nil (encode_utf8 c)))

dear : (inside space : Bool) (bytes : ℕ) → 1 ≤ bytes → (if space then 0 else if inside then 0 else 1) ≤ (if space then 0 else bytes)
dear inside true bytes h = omega arith
dear true false bytes h = omega arith
dear false false bytes h = omega arith

no_dearer : (space : Bool) (bytes : ℕ) → (if space then 0 else bytes) ≤ bytes
no_dearer true bytes = omega arith
no_dearer false bytes = omega arith

cheap : (inside : Bool) (text : List ℕ) → (starts inside text ≤ spoken_bytes text) × (spoken_bytes text ≤ byte_len text)
cheap inside [] = (omega arith, omega arith)
cheap inside (c ∷ text) =
    let more = cheap (not (is_space c)) text in
    let words : word_cost inside c ≤ byte_cost c = dear inside (is_space c) (length (encode_utf8 c)) (some_bytes c) in
    let bytes : byte_cost c ≤ length (encode_utf8 c) = no_dearer (is_space c) (length (encode_utf8 c)) in
    let sum : byte_len (c ∷ text) ≡ length (encode_utf8 c) + byte_len text = length-append (encode_utf8 c) (encode_utf8_all text) in
    (omega (arith, words, more.0), omega (arith, bytes, more.1, sum))

pub few_words : (text : List ℕ) (len : ℕ) (words : List (List ℕ)) → len ≡ byte_len text → AreWords words text → IsWithin (record { words = len; bytes = len }) words
few_words text len words e a =
    let n = counted text words a in
    let few = cheap false text in
    let number = n.words in
    let bytes = n.bytes in
    record { words = omega (arith, few.0, few.1); bytes = omega (arith, few.1) }
