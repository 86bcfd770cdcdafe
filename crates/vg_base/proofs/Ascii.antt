-- Characters below 128, and the texts that are made of them.
use Rattle.std.proofs.Common.{◌≡◌, ℕ, Bool, true, eqb, ltb, List, [], ◌∷◌, ◌++◌, get_or, refl, ap, sym, ◌∙◌, inl, inr}
use Rattle.std.specs.List.{list_any, list_all}
use Rattle.std.specs.Str.{encode_utf8_all, IsAscii}
use Rattle.std.proofs.lemmas.Str.{encode_ascii, cons_from_encodes}
use Rattle.std.proofs.lemmas.Str.Ascii.{IsAscii-from_all}
use Rattle.std.proofs.lemmas.List.Sums.{AllPass-from_list_all}
use Rattle.std.proofs.lemmas.Bool.{false≢true, or_cases, and_parts, eqb-true, ltb-true}

-- a character of a list passes a test that all of the list pass
pub passes : (test : ℕ → Bool) (all : List ℕ) (c : ℕ) → list_all test all ≡ true → list_any (λ x. eqb x c) all ≡ true → test c ≡ true
passes test [] c h i = absurd (false≢true i)
passes test (x ∷ all) c h i = elim (or_cases (eqb x c) (list_any (λ x. eqb x c) all) i) [
  | inl e ↦ ap test (sym (eqb-true x c e)) ∙ (and_parts (test x) (list_all test all) h).0
  | inr j ↦ passes test all c (and_parts (test x) (list_all test all) h).1 j
]

abbrev pub is_small : ℕ → Bool
is_small c = ltb c 128

pub small_ascii : (text : List ℕ) → list_all is_small text ≡ true → IsAscii text
small_ascii text h = IsAscii-from_all text (λ k d within. ltb-true (get_or text k d) 128 (AllPass-from_list_all is_small text h k d within))

-- where the bytes of a text begin with these, its characters do
pub past_small : (front text more : List ℕ) → list_all is_small front ≡ true → encode_utf8_all text ≡ front ++ more
    → (rest : List ℕ) × (text ≡ front ++ rest) × (encode_utf8_all rest ≡ more)
past_small [] text more h e = (text, refl, e)
past_small (c ∷ front) text more h e =
    let small = and_parts (is_small c) (list_all is_small front) h in
    let one = encode_ascii c (ltb-true c 128 small.0) in
    let past = cons_from_encodes text (front ++ more) c (e ∙ ap (λ l. l ++ (front ++ more)) (sym one)) in
    let others = past_small front past.0 more small.1 past.2 in
    (others.0, past.1 ∙ ap (λ l. c ∷ l) others.1, others.2)
