-- The words of a text. Its stretches stand at most one at each place (`one_begins`), and one always does (`first_stretch`), so it is cut into them in
-- one way to its end: `one_list`, `some_list`. The loop over characters keeps `Completes`: whatever completes the word at hand and the rest of the
-- text completes the words so far.
use Rattle.std.proofs.Common.{◌≡◌, ◌≢◌, ℕ, ◌+◌, Bool, true, false, not, cond, ◌||◌, List, [], ◌∷◌, ◌++◌, refl, ap, sym, ◌∙◌, subst, inl, inr, length, ◌<◌, arith}
use Rattle.std.proofs.lemmas.List.{append-nil, append_assoc}
use Rattle.std.specs.List.{list_all, list_any, prefix_len}
use Rattle.std.proofs.lemmas.Bool.{false≢true, and_parts, and_from, or_parts, cases_Bool}
use Rattle.vg_base.specs.Characters.{is_space, IsWord}
use Rattle.vg_base.specs.Cut.{Piece, Cuts, BeginsNone, IsCut}
use Rattle.vg_base.specs.Runs.{begins, IsWhiteSpace}
use Rattle.vg_base.proofs.Cutting.{OneBegins, one_cutting, FirstPiece, Looks, some_cutting}
use Rattle.vg_base.proofs.LongestRuns.{run_of, one_run}
use Rattle.token_forms.specs.Words.{Stretch, Space, Spoken, is_spoken, IsWordHere, HasForm, words_in, AreWords, AreWordsOf}
use Rattle.token_forms.specs.code.Taken.{Adds}

-- ---- one cutting

-- white space is no word
apart : (s t r q : List ℕ) → s ++ r ≡ t ++ q → IsWhiteSpace s r → IsWordHere t q → ⊥
apart [] t r q e f g = f.some refl
apart (c ∷ s) [] r q e f g = g.some refl
apart (c ∷ s) (d ∷ t) r q e f g =
    let same : c ≡ d = cc in
    let space = (and_parts (is_space c) (list_all is_space s) f.run.each).0 in
    let spoken = (and_parts (is_spoken d) (list_all is_spoken t) g.run.each).0 in
    false≢true (sym (ap not space) ∙ (ap is_spoken same ∙ spoken))

one_begins : OneBegins HasForm
one_begins Space Space s t r q e f g = (refl, (one_run is_space s t r q f.run.each f.run.ends g.run.each g.run.ends e).0)
one_begins Spoken Spoken s t r q e f g = (refl, (one_run is_spoken s t r q f.run.each f.run.ends g.run.each g.run.ends e).0)
one_begins Space Spoken s t r q e f g = absurd (apart s t r q e f g)
one_begins Spoken Space s t r q e f g = absurd (apart t s q r (sym e) g f)

-- a run that begins has a character
begun : (p : ℕ → Bool) (c : ℕ) (cs : List ℕ) (run : List ℕ) → p c ≡ true → length run ≡ prefix_len p (c ∷ cs) → 0 < length run
begun p c cs run e long = let some : length run ≡ 1 + prefix_len p cs = long ∙ ap (λ b. cond b (1 + prefix_len p cs) 0) e in omega arith

not_empty : (xs : List ℕ) → 0 < length xs → xs ≢ []
not_empty xs some e = let none : length xs ≡ 0 = ap length e in omega arith

first_stretch : (c : ℕ) (cs : List ℕ) → FirstPiece HasForm (c ∷ cs)
first_stretch c cs = elim (cases_Bool (is_space c)) [
  | inl s ↦
      let r = run_of is_space (c ∷ cs) in
      let some = begun is_space c cs r.run s r.long in
      record { kind = Space; slice = r.run; rest = r.rest; whole = r.parts; form = record { run = r.is_run; some = not_empty r.run some }; some = some }
  | inr n ↦
      let r = run_of is_spoken (c ∷ cs) in
      let some = begun is_spoken c cs r.run (ap not n) r.long in
      record { kind = Spoken; slice = r.run; rest = r.rest; whole = r.parts; form = record { run = r.is_run; some = not_empty r.run some }; some = some }
]

-- nothing begins with no stretch, and only nothing
nothing : BeginsNone HasForm []
nothing Space [] rest e f = f.some refl
nothing Spoken [] rest e f = f.some refl
nothing kind (c ∷ slice) rest e f = cc

at_end : (stop : List ℕ) → BeginsNone HasForm stop → stop ≡ []
at_end [] stuck = refl
at_end (c ∷ cs) stuck = let f = first_stretch c cs in absurd (stuck f.kind f.slice f.rest f.whole f.form)

looks : Looks HasForm
looks [] = inr nothing
looks (c ∷ cs) = inl (first_stretch c cs)

whole_cut : (text : List ℕ) (stretches : List (Piece Stretch)) → Cuts HasForm text stretches [] → IsCut HasForm text stretches []
whole_cut text stretches c = record { cuts = c; stuck = nothing }

-- a text has a list of words
pub some_list : (text : List ℕ) → (words : List (List ℕ)) × AreWords words text
some_list text =
    let cut = some_cutting HasForm looks text in
    (words_in cut.pieces, (cut.pieces, subst (Cuts HasForm text cut.pieces) (at_end cut.stop cut.is_cut.stuck) cut.is_cut.cuts, refl))

-- and no other
pub one_list : (these those : List (List ℕ)) (text : List ℕ) → AreWords these text → AreWords those text → these ≡ those
one_list these those text p q =
    p.2 ∙ (ap words_in (one_cutting HasForm one_begins text p.0 q.0 [] [] (whole_cut text p.0 p.1) (whole_cut text q.0 q.1)).0 ∙ sym q.2)

-- ---- several texts

pub some_lists : (texts : List (List ℕ)) → (words : List (List ℕ)) × AreWordsOf words texts
some_lists [] = ([], refl)
some_lists (text ∷ texts) =
    let first = some_list text in
    let others = some_lists texts in
    (first.0 ++ others.0, (first.0, others.0, first.1, others.1, refl))

pub one_lists : (texts these those : List (List ℕ)) → AreWordsOf these texts → AreWordsOf those texts → these ≡ those
one_lists [] these those p q = p ∙ sym q
one_lists (text ∷ texts) these those p q =
    let first = one_list p.0 q.0 text p.2 q.2 in
    let others = one_lists texts p.1 q.1 p.3 q.3 in
    p.4 ∙ ((λ i. first i ++ others i) ∙ sym q.4)

-- the words of one more text
pub words_more : (texts : List (List ℕ)) (text : List ℕ) (old new : List (List ℕ)) → AreWordsOf old texts → Adds old new text → AreWordsOf new (texts ++ text ∷ [])
words_more [] text old new p a = (a.0, [], a.1, refl, a.2 ∙ (ap (λ l. l ++ a.0) p ∙ sym (append-nil a.0)))
words_more (first ∷ texts) text old new p a =
    let more = words_more texts text p.1 (p.1 ++ a.0) p.3 (a.0, a.1, refl) in
    (p.0, p.1 ++ a.0, p.2, more, a.2 ∙ (ap (λ l. l ++ a.0) p.4 ∙ append_assoc p.0 p.1 a.0))

-- the words of texts, and of others behind them
pub words_parted : (texts others : List (List ℕ)) (words : List (List ℕ)) → AreWordsOf words (texts ++ others)
    → (these those : List (List ℕ)) × AreWordsOf these texts × AreWordsOf those others × (words ≡ these ++ those)
words_parted [] others words p = ([], words, refl, p, refl)
words_parted (text ∷ texts) others words p =
    let more = words_parted texts others p.1 p.3 in
    (p.0 ++ more.0, more.1, (p.0, more.0, p.2, more.2, refl), more.3, p.4 ∙ (ap (λ l. p.0 ++ l) more.4 ∙ sym (append_assoc p.0 more.0 more.1)))

-- ---- words in front of a text

-- no word goes on here: the text is at its end, or white space comes
abbrev EndsWord : List ℕ → Type 0
EndsWord [] = Unit {0}
EndsWord (c ∷ text) = is_space c ≡ true

word_ends : (rest : List ℕ) → EndsWord rest → begins is_spoken rest ≡ false
word_ends [] h = refl
word_ends (c ∷ rest) h = ap not h

each_spoken : (word : List ℕ) → IsWord word → list_all is_spoken word ≡ true
each_spoken [] w = refl
each_spoken (c ∷ word) w = let h = or_parts (is_space c) (list_any is_space word) w in and_from (is_spoken c) (list_all is_spoken word) (ap not h.0) (each_spoken word h.1)

-- before white space, or before a word, or at the end
add_space : (words : List (List ℕ)) (c : ℕ) (text : List ℕ) (stretches : List (Piece Stretch)) → is_space c ≡ true → Cuts HasForm text stretches [] → words ≡ words_in stretches
    → AreWords words (c ∷ text)
add_space words c text [] s cuts e =
    ((record { kind = Space; slice = c ∷ [] }) ∷ [], ([], ap (λ t. c ∷ t) cuts, record { run = record { each = and_from (is_space c) true s refl; ends = refl }; some = λ e. cc }, refl), e)
add_space words c text (p ∷ ps) s cuts e = at_kind p.kind p.slice cuts e
  where
    at_kind : (kind : Stretch) (slice : List ℕ) → Cuts HasForm text ((record { kind = kind; slice = slice }) ∷ ps) [] → words ≡ words_in ((record { kind = kind; slice = slice }) ∷ ps)
        → AreWords words (c ∷ text)
    at_kind Space slice d w = (
      (record { kind = Space; slice = c ∷ slice }) ∷ ps,
      (d.0, ap (λ t. c ∷ t) d.1, record { run = record { each = and_from (is_space c) (list_all is_space slice) s d.2.run.each; ends = d.2.run.ends }; some = λ e. cc }, d.3),
      w,
    )
    at_kind Spoken [] d w = absurd (d.2.some refl)
    at_kind Spoken (x ∷ slice) d w = (
      (record { kind = Space; slice = c ∷ [] }) ∷ (record { kind = Spoken; slice = x ∷ slice }) ∷ ps,
      (
        text,
        refl,
        record { run = record { each = and_from (is_space c) true s refl; ends = ap (begins is_space) d.1 ∙ not_true (is_space x) (and_parts (is_spoken x) (list_all is_spoken slice) d.2.run.each).0 }; some = λ e. cc },
        d,
      ),
      w,
    )
      where
        not_true : (b : Bool) → not b ≡ true → b ≡ false
        not_true true h = cc
        not_true false h = refl

-- white space before a text changes none of its words
pub skip_space : (words : List (List ℕ)) (c : ℕ) (text : List ℕ) → is_space c ≡ true → AreWords words text → AreWords words (c ∷ text)
skip_space words c text s h = add_space words c text h.0 s h.1 h.2

-- a word in front of a text in which it can't go on
pub put_word : (word rest : List ℕ) (words : List (List ℕ)) → word ≢ [] → IsWord word → EndsWord rest → AreWords words rest → AreWords (word ∷ words) (word ++ rest)
put_word word rest words n w e h = (
  (record { kind = Spoken; slice = word }) ∷ h.0,
  (rest, refl, record { run = record { each = each_spoken word w; ends = word_ends rest e }; some = n }, h.1),
  ap (λ l. word ∷ l) h.2,
)

pub no_words : AreWords [] []
no_words = ([], refl, refl)

-- ---- the loop

-- what completes the word at hand and the rest of the text completes the words so far
abbrev pub Completes : List ℕ → (old words : List (List ℕ)) → List ℕ → Type 0
Completes text old words rest = (more : List (List ℕ)) → AreWords more rest → Adds old (words ++ more) text

-- the word at hand is put behind the others, unless it is empty
module _ (text : List ℕ) (old words after : List (List ℕ)) where
  pub space_came : (word rest : List ℕ) (c : ℕ) → is_space c ≡ true → IsWord word
      → (word ≡ [] → after ≡ words) → (0 < length word → after ≡ words ++ word ∷ [])
      → Completes text old words (word ++ c ∷ rest) → Completes text old after rest
  space_came [] rest c s w none one h = λ more m. rw (none refl) (h more (skip_space more c rest s m))
  space_came (x ∷ word) rest c s w none one h = λ more m.
      rw (one (omega arith), append_assoc) (h ((x ∷ word) ∷ more) (put_word (x ∷ word) (c ∷ rest) more (λ e. cc) w s (skip_space more c rest s m)))

  pub text_ended : (word : List ℕ) → IsWord word
      → (word ≡ [] → after ≡ words) → (0 < length word → after ≡ words ++ word ∷ [])
      → Completes text old words (word ++ []) → Adds old after text
  text_ended [] w none one h = let a = h [] no_words in rw (none refl, ← append-nil words) a
  text_ended (x ∷ word) w none one h = rw (one (omega arith)) (h ((x ∷ word) ∷ []) (put_word (x ∷ word) [] [] (λ e. cc) w tt no_words))

-- a word grows by a character that isn't white space
pub IsWord-push : (word : List ℕ) (c : ℕ) → IsWord word → is_space c ≡ false → IsWord (word ++ c ∷ [])
IsWord-push [] c w n = ap (λ b. b || false) n
IsWord-push (x ∷ word) c w n = let h = or_parts (is_space x) (list_any is_space word) w in ap (λ b. b || list_any is_space (word ++ c ∷ [])) h.0 ∙ IsWord-push word c h.1 n
