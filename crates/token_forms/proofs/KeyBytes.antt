-- Signs are of ASCII, so they stand in a text's bytes as they do in its characters.
use Rattle.std.proofs.Common.{◌≡◌, ℕ, ◌<◌, ◌-◌, true, ◌&&◌, nat_le, lit<, List, [], ◌∷◌, ◌++◌, length, refl, ap, sym, ◌∙◌, subst, inl, inr, arith, codes}
use Rattle.std.specs.List.{list_all}
use Rattle.std.proofs.lemmas.Bool.{or_cases, and_parts, leb-true, lt-ltb}
use Rattle.vg_base.proofs.Ascii.{passes, is_small, small_ascii, past_small}
use Rattle.std.specs.Str.{encode_utf8_all}
use Rattle.std.proofs.lemmas.Str.{encodes-append, encodes-IsAscii, length-le-encodes}
use Rattle.std.proofs.lemmas.List.{length-append}
use Rattle.vg_base.specs.Characters.{is_space, lies_in}
use Rattle.vg_base.specs.Cut.{Piece, characters, Cuts, BeginsNone, IsCut}
use Rattle.vg_base.proofs.Cutting.{cut_whole}
use Rattle.token_forms.specs.Keys.{Sign, Key, Star, Pound, Space, IsSign, spelling, HasForm, keys_in, AreKeys, IsBadKeyAt}
use Rattle.token_forms.proofs.KeyLemmas.{cut_once, whole_cut}

small_below : (c low high : ℕ) → high < 128 → (nat_le low c && nat_le c high) ≡ true → is_small c ≡ true
small_below c low high small h = lt-ltb c 128 (let within = leb-true c high (and_parts (nat_le low c) (nat_le c high) h).1 in omega arith)

small_space : (c : ℕ) → is_space c ≡ true → is_small c ≡ true
small_space c h = elim (or_cases (nat_le 9 c && nat_le c 10) (lies_in ((13, 13) ∷ (32, 32) ∷ []) c) h) [
  | inl i ↦ small_below c 9 10 (lit< tt) i
  | inr i ↦ elim (or_cases (nat_le 13 c && nat_le c 13) (lies_in ((32, 32) ∷ []) c) i) [
    | inl j ↦ small_below c 13 13 (lit< tt) j
    | inr j ↦ elim (or_cases (nat_le 32 c && nat_le c 32) (lies_in [] c) j) [ inl k ↦ small_below c 32 32 (lit< tt) k | inr k ↦ cc ]
  ]
]

small_sign : (sign : Sign) → IsSign sign → list_all is_small (spelling sign) ≡ true
small_sign (Key c) h = ap (λ b. b && true) (passes is_small (codes "0123456789*#ABCD") c refl h)
small_sign Star h = refl
small_sign Pound h = refl
small_sign (Space c) h = ap (λ b. b && true) (small_space c h)

small_slice : (sign : Sign) (slice rest : List ℕ) → HasForm sign slice rest → list_all is_small slice ≡ true
small_slice sign slice rest f = ap (list_all is_small) f.spelt ∙ small_sign sign f.is_sign

-- how the bytes are cut, the characters are
past_signs : (signs : List (Piece Sign)) (cs bs more : List ℕ) → bs ≡ encode_utf8_all cs → Cuts HasForm bs signs more
    → (es : List ℕ) × Cuts HasForm cs signs es × (encode_utf8_all es ≡ more)
past_signs [] cs bs more is c = (cs, refl, sym is ∙ c)
past_signs (p ∷ ps) cs bs more is c =
    let first = past_small p.slice cs c.0 (small_slice p.kind p.slice c.0 c.2) (sym is ∙ c.1) in
    let others = past_signs ps first.0 c.0 more (sym first.2) c.3 in
    (others.0, (first.0, first.1, record { is_sign = c.2.is_sign; spelt = c.2.spelt }, others.1), others.2)

still_stuck : (es : List ℕ) → BeginsNone HasForm (encode_utf8_all es) → BeginsNone HasForm es
still_stuck es t sign slice more e f =
    t sign slice (encode_utf8_all more)
    (ap encode_utf8_all e ∙ (encodes-append slice more ∙ ap (λ l. l ++ encode_utf8_all more) (encodes-IsAscii slice (small_ascii slice (small_slice sign slice more f)))))
    (record { is_sign = f.is_sign; spelt = f.spelt })

-- how the bytes are cut, their text is
module _ (cs bs : List ℕ) (is : bs ≡ encode_utf8_all cs) (signs : List (Piece Sign)) (rest : List ℕ) (h : IsCut HasForm bs signs rest) where
  of_text : (es : List ℕ) × IsCut HasForm cs signs es × (encode_utf8_all es ≡ rest)
  of_text =
      let past = past_signs signs cs bs rest is h.cuts in
      (past.0, record { cuts = past.1; stuck = still_stuck past.0 (subst (BeginsNone HasForm) (sym past.2) h.stuck) }, past.2)

  -- where nothing is left, the text is signs
  pub all_signs : length rest ≡ 0 → AreKeys (keys_in signs) cs
  all_signs none = empty of_text.0 of_text.1 (omega (arith, none, ap length of_text.2, length-le-encodes of_text.0))
    where
      empty : (es : List ℕ) → IsCut HasForm cs signs es → length es ≡ 0 → AreKeys (keys_in signs) cs
      empty [] f n = (signs, f.cuts, refl)
      empty (x ∷ es) f n = absurd (omega arith)

  pub bad_place : 0 < length rest → IsBadKeyAt (length bs - length rest) cs
  bad_place some = record {
    signs = signs;
    rest = of_text.0;
    is_cut = of_text.1;
    some = λ e. let none : length rest ≡ 0 = ap length (sym of_text.2 ∙ ap encode_utf8_all e) in omega arith;
    place = omega (arith, ap length (cut_whole HasForm bs signs rest h.cuts), length-append (characters signs) rest);
  }

  -- where all of the text is signs, the bytes' signs are all of them
  pub keys_all : (whole keys : List (List ℕ)) → AreKeys whole cs → keys ≡ keys_in signs → AreKeys keys cs
  keys_all whole keys w k =
      let same = cut_once cs w.0 signs [] of_text.0 (whole_cut cs w.0 w.1) of_text.1 in
      (signs, subst (Cuts HasForm cs signs) (sym same.1) of_text.1.cuts, k)
