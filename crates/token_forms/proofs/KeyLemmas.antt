-- The keys of a text. No spelling of a sign begins another (`same_sign`), so a text is cut into signs in one way, up to where none begins: one list of
-- keys, or one place where it stops to spell keys, and never both.
use Rattle.std.proofs.Common.{◌≡◌, ◌≢◌, ℕ, ◌+◌, ◌<◌, ◌≤◌, drop, ◌⊎◌, inl, inr, true, false, not, eqb, List, [], ◌∷◌, ◌++◌, length, Option, Some, None, refl, ap, sym, ◌∙◌, arith, codes, length-append}
use Rattle.std.specs.List.{cons_option, starts_with}
use Rattle.std.proofs.lemmas.List.{append-nil}
use Rattle.std.proofs.lemmas.List.Elements.{filter_map-append}
use Rattle.std.proofs.lemmas.Bool.{false≢true, cases_Bool}
use Rattle.std.proofs.lemmas.Slice.Eq.{starts_is}
use Rattle.std.proofs.lemmas.Bool.Decides.{nat_tests, Decides-eqb}
use Rattle.vg_base.specs.Characters.{is_space}
use Rattle.vg_base.specs.Cut.{Piece, characters, Cuts, BeginsNone, IsCut}
use Rattle.vg_base.proofs.Ascii.{passes}
use Rattle.vg_base.proofs.Cutting.{OneBegins, one_cutting, one_more, FirstPiece, Looks, some_cutting}
use Rattle.token_forms.specs.Keys.{is_key, Sign, Key, Star, Pound, Space, IsSign, spelling, HasForm, key_of, keys_in, AreKeys, IsBadKeyAt}
use Rattle.token_forms.specs.code.Taken.{TakesSign}

-- white space is no key
spaces_apart : (c : ℕ) → is_space c ≡ true → is_key c ≡ true → ⊥
spaces_apart c s k = false≢true (sym (ap not s) ∙ passes (λ x. not (is_space x)) (codes "0123456789*#ABCD") c refl k)

-- one character is not another
differ : (c d : ℕ) (r s : List ℕ) → eqb c d ≡ false → c ∷ r ≡ d ∷ s → ⊥
differ c d r s n e = let h : c ≡ d = cc in false≢true (sym n ∙ ap (λ x. eqb x d) h ∙ is_same d)
  where
    is_same : (x : ℕ) → eqb x x ≡ true
    is_same x = grind (arith, nat_tests)

-- the first sign of a text is one
pub same_sign : (p q : Sign) (r s : List ℕ) → IsSign p → IsSign q → spelling p ++ r ≡ spelling q ++ s → (p ≡ q) × (r ≡ s)
same_sign (Key c) (Key d) r s p q e = let h : c ≡ d = cc in let t : r ≡ s = cc in (cc, t)
same_sign (Key c) Star r s p q e = absurd (let h : c ≡ 115 = cc in false≢true (ap is_key (sym h) ∙ p))
same_sign (Key c) Pound r s p q e = absurd (let h : c ≡ 112 = cc in false≢true (ap is_key (sym h) ∙ p))
same_sign (Key c) (Space d) r s p q e = absurd (let h : c ≡ d = cc in spaces_apart d q (ap is_key (sym h) ∙ p))
same_sign Star (Key d) r s p q e = absurd (let h : d ≡ 115 = cc in false≢true (ap is_key (sym h) ∙ q))
same_sign Star Star r s p q e = let t : r ≡ s = cc in (refl, t)
same_sign Star Pound r s p q e = absurd (differ 115 112 _ _ refl e)
same_sign Star (Space d) r s p q e = absurd (let h : d ≡ 115 = cc in false≢true (ap is_space (sym h) ∙ q))
same_sign Pound (Key d) r s p q e = absurd (let h : d ≡ 112 = cc in false≢true (ap is_key (sym h) ∙ q))
same_sign Pound Star r s p q e = absurd (differ 112 115 _ _ refl e)
same_sign Pound Pound r s p q e = let t : r ≡ s = cc in (refl, t)
same_sign Pound (Space d) r s p q e = absurd (let h : d ≡ 112 = cc in false≢true (ap is_space (sym h) ∙ q))
same_sign (Space c) (Key d) r s p q e = absurd (let h : c ≡ d = cc in spaces_apart c p (ap is_key h ∙ q))
same_sign (Space c) Star r s p q e = absurd (let h : c ≡ 115 = cc in false≢true (ap is_space (sym h) ∙ p))
same_sign (Space c) Pound r s p q e = absurd (let h : c ≡ 112 = cc in false≢true (ap is_space (sym h) ∙ p))
same_sign (Space c) (Space d) r s p q e = let h : c ≡ d = cc in let t : r ≡ s = cc in (cc, t)

-- ---- one cutting

one_begins : OneBegins HasForm
one_begins j k s t r q e f g =
    let same = same_sign j k r q f.is_sign g.is_sign (ap (λ l. l ++ r) (sym f.spelt) ∙ (e ∙ ap (λ l. l ++ q) g.spelt)) in
    (same.0, f.spelt ∙ (ap spelling same.0 ∙ sym g.spelt))

-- nothing begins with no sign
pub nothing : BeginsNone HasForm []
nothing kind [] rest e f = written kind f.spelt
  where
    written : (sign : Sign) → [] ≡ spelling sign → ⊥
    written (Key c) e = cc
    written Star e = cc
    written Pound e = cc
    written (Space c) e = cc
nothing kind (c ∷ slice) rest e f = cc

pub whole_cut : (text : List ℕ) (signs : List (Piece Sign)) → Cuts HasForm text signs [] → IsCut HasForm text signs []
whole_cut text signs c = record { cuts = c; stuck = nothing }

-- a text is cut as far as it can be in one way
pub cut_once : (text : List ℕ) (these those : List (Piece Sign)) (this that : List ℕ) → IsCut HasForm text these this → IsCut HasForm text those that → (these ≡ those) × (this ≡ that)
cut_once = one_cutting HasForm one_begins

pub one_list : (text : List ℕ) (these those : List (List ℕ)) → AreKeys these text → AreKeys those text → these ≡ those
one_list text these those a b = a.2 ∙ (ap keys_in (cut_once text a.0 b.0 [] [] (whole_cut text a.0 a.1) (whole_cut text b.0 b.1)).0 ∙ sym b.2)

pub one_place : (text : List ℕ) (here there : ℕ) → IsBadKeyAt here text → IsBadKeyAt there text → here ≡ there
one_place text here there a b =
    a.place ∙ (ap (λ signs. length (characters signs)) (cut_once text a.signs b.signs a.rest b.rest a.is_cut b.is_cut).0 ∙ sym b.place)

pub not_both : (text : List ℕ) (keys : List (List ℕ)) (at : ℕ) → AreKeys keys text → IsBadKeyAt at text → ⊥
not_both text keys at a b = b.some (sym (cut_once text a.0 b.signs [] b.rest (whole_cut text a.0 a.1) b.is_cut).1)

-- ---- some cutting

begins : (text front : List ℕ) → ((rest : List ℕ) × (text ≡ front ++ rest)) ⊎ ((rest : List ℕ) → text ≢ front ++ rest)
begins text front =
    let s = starts_is Decides-eqb text front (starts_with eqb text front) refl in
    elim (cases_Bool (starts_with eqb text front)) [
      | inl e ↦ inl (drop (length front) text, s.0 e)
      | inr n ↦ inr (λ rest e. false≢true (sym n ∙ s.1 rest e))
    ]

-- a sign isn't empty
some_sign : (sign : Sign) → 0 < length (spelling sign)
some_sign (Key c) = omega arith
some_sign Star = omega arith
some_sign Pound = omega arith
some_sign (Space c) = omega arith

sign_first : (text : List ℕ) (sign : Sign) (rest : List ℕ) → IsSign sign → text ≡ spelling sign ++ rest → FirstPiece HasForm text
sign_first text sign rest is e = record { kind = sign; slice = spelling sign; rest = rest; whole = e; form = record { is_sign = is; spelt = refl }; some = some_sign sign }

-- a text begins with a sign, or with none
looks : Looks HasForm
looks [] = inr nothing
looks (c ∷ text) = elim (begins (c ∷ text) (codes "star")) [
  | inl s ↦ inl (sign_first (c ∷ text) Star s.0 tt s.1)
  | inr star ↦ elim (begins (c ∷ text) (codes "pound")) [
    | inl s ↦ inl (sign_first (c ∷ text) Pound s.0 tt s.1)
    | inr pound ↦ elim (cases_Bool (is_key c)) [
      | inl k ↦ inl (sign_first (c ∷ text) (Key c) text k refl)
      | inr key ↦ elim (cases_Bool (is_space c)) [
        | inl s ↦ inl (sign_first (c ∷ text) (Space c) text s refl)
        | inr space ↦ inr (λ sign slice rest e f. none star pound key space sign rest f.is_sign (e ∙ ap (λ l. l ++ rest) f.spelt))
      ]
    ]
  ]
]
  where
    none : ((rest : List ℕ) → c ∷ text ≢ codes "star" ++ rest) → ((rest : List ℕ) → c ∷ text ≢ codes "pound" ++ rest)
        → is_key c ≡ false → is_space c ≡ false → (sign : Sign) (rest : List ℕ) → IsSign sign → c ∷ text ≡ spelling sign ++ rest → ⊥
    none star pound key space (Key d) rest h e = let same : c ≡ d = cc in false≢true (sym key ∙ (ap is_key same ∙ h))
    none star pound key space Star rest h e = star rest e
    none star pound key space Pound rest h e = pound rest e
    none star pound key space (Space d) rest h e = let same : c ≡ d = cc in false≢true (sym space ∙ (ap is_space same ∙ h))

pub some_division : (text : List ℕ) → ((keys : List (List ℕ)) × AreKeys keys text) ⊎ ((at : ℕ) × IsBadKeyAt at text)
some_division text = let cut = some_cutting HasForm looks text in go cut.pieces cut.stop cut.is_cut
  where
    go : (signs : List (Piece Sign)) (rest : List ℕ) → IsCut HasForm text signs rest → ((keys : List (List ℕ)) × AreKeys keys text) ⊎ ((at : ℕ) × IsBadKeyAt at text)
    go signs [] h = inl (keys_in signs, (signs, h.cuts, refl))
    go signs (c ∷ rest) h = inr (length (characters signs), record { signs = signs; rest = c ∷ rest; is_cut = h; some = λ e. cc; place = refl })

-- ---- the loops

-- the keys of the signs so far
pub record SoFar (text : List ℕ) (keys : List (List ℕ)) (rest : List ℕ) : Type 0 where
  pub signs : List (Piece Sign)
  pub cuts : Cuts HasForm text signs rest
  pub spelled : keys ≡ keys_in signs

-- a sign as a piece
abbrev piece : Sign → Piece Sign
piece sign = record { kind = sign; slice = spelling sign }

module _ (text : List ℕ) (keys : List (List ℕ)) (rest after : List ℕ) (s : SoFar text keys rest) where
  cut_more : (key : Option ℕ) (t : TakesSign rest key after) → Cuts HasForm text (s.signs ++ piece t.sign ∷ []) after
  cut_more key t = one_more HasForm text s.signs rest (piece t.sign) after s.cuts t.whole (record { is_sign = t.is_sign; spelt = refl })

  keys_more : (key : Option ℕ) (t : TakesSign rest key after) → keys_in (s.signs ++ piece t.sign ∷ []) ≡ keys ++ cons_option (key_of t.sign) []
  keys_more key t = filter_map-append (λ (p : Piece Sign). key_of p.kind) s.signs (piece t.sign ∷ []) ∙ ap (λ ks. ks ++ cons_option (key_of t.sign) []) (sym s.spelled)

  pub key_more : (key : ℕ) → TakesSign rest (Some key) after → SoFar text (keys ++ (key ∷ []) ∷ []) after
  key_more key t = record {
    signs = s.signs ++ piece t.sign ∷ [];
    cuts = cut_more (Some key) t;
    spelled = sym (keys_more (Some key) t ∙ ap (λ o. keys ++ cons_option o []) t.means);
  }

  pub space_more : TakesSign rest None after → SoFar text keys after
  space_more t = record {
    signs = s.signs ++ piece t.sign ∷ [];
    cuts = cut_more None t;
    spelled = sym (keys_more None t ∙ (ap (λ o. keys ++ cons_option o []) t.means ∙ append-nil keys));
  }

-- so many keys so far
pub record SoMany (text : List ℕ) (number : ℕ) (rest : List ℕ) : Type 0 where
  pub keys : List (List ℕ)
  pub so_far : SoFar text keys rest
  pub counted : number ≡ length keys
  -- a key takes a byte at least
  pub bound : number + length rest ≤ length text

-- a sign counts where it is a key
abbrev pub flagged : Option ℕ → ℕ
flagged None = 0
flagged (Some key) = 1

pub many_more : (text : List ℕ) (number : ℕ) (rest after : List ℕ) (key : Option ℕ) → SoMany text number rest → TakesSign rest key after → SoMany text (number + flagged key) after
many_more text number rest after None s t =
    let long = ap length t.whole ∙ length-append (spelling t.sign) after in
    let bound = s.bound in
    let counted = s.counted in
    record {
      keys = s.keys;
      so_far = space_more text s.keys rest after s.so_far t;
      counted = omega arith;
      bound = omega arith;
    }
many_more text number rest after (Some key) s t =
    let long = ap length t.whole ∙ length-append (spelling t.sign) after in
    let some = some_sign t.sign in
    let bound = s.bound in
    let counted = s.counted in
    let one_longer = length-append s.keys ((key ∷ []) ∷ []) in
    record {
      keys = s.keys ++ (key ∷ []) ∷ [];
      so_far = key_more text s.keys rest after s.so_far key t;
      counted = omega arith;
      bound = omega arith;
    }
