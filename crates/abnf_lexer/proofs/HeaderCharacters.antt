-- A header without a fault has characters, all of which a document may have.
use Rattle.std.proofs.Common.{◌≡◌, ℕ, ◌<◌, true, ◌&&◌, ◌==◌, inl, inr, List, [], ◌∷◌, ◌++◌, length, codes, refl, sym, ap, ◌∙◌, arith, append_assoc, length-append}
use Rattle.std.specs.List.{list_all}
use Rattle.std.proofs.lemmas.Bool.{and_parts, eqb-true}
use Rattle.std.proofs.lemmas.List.{append_cancel_right}
use Rattle.vg_base.specs.Characters.{is_char}
use Rattle.vg_base.proofs.Ascii.{passes}
use Rattle.abnf_lexer.specs.Classes.{is_one_of, is_blank}
use Rattle.abnf_lexer.specs.Faults.{bad_characters}
use Rattle.abnf_lexer.specs.Header.{behind_header, is_utf_8, header_faults, IsEncoding, HasHeader, IsMarkOrNone}
use Rattle.abnf_lexer.proofs.FirstBad.{none_bad}
use Rattle.abnf_lexer.proofs.HeaderForm.{all_append, header_form, behind_header-whole}

blank_good : (xs : List ℕ) → list_all is_blank xs ≡ true → list_all is_char xs ≡ true
blank_good [] e = refl
blank_good (c ∷ xs) e =
    let both = and_parts (is_blank c) (list_all is_blank xs) e in
    (λ i. passes is_char (32 ∷ 9 ∷ []) c refl both.0 i && blank_good xs both.1 i)

mark_good : (mark : List ℕ) → IsMarkOrNone mark → list_all is_char mark ≡ true
mark_good mark (inl e) = ap (list_all is_char) e
mark_good mark (inr e) = ap (list_all is_char) e

name_good : (name : List ℕ) → is_utf_8 name ≡ true → list_all is_char name ≡ true
name_good (u ∷ t ∷ f ∷ hyphen ∷ eight ∷ []) e =
    let one = and_parts (is_one_of (codes "Uu") u && is_one_of (codes "Tt") t && is_one_of (codes "Ff") f && hyphen == 45) (eight == 56) e in
    let two = and_parts (is_one_of (codes "Uu") u && is_one_of (codes "Tt") t && is_one_of (codes "Ff") f) (hyphen == 45) one.0 in
    let three = and_parts (is_one_of (codes "Uu") u && is_one_of (codes "Tt") t) (is_one_of (codes "Ff") f) two.0 in
    let four = and_parts (is_one_of (codes "Uu") u) (is_one_of (codes "Tt") t) three.0 in
    let u_is = passes is_char (codes "Uu") u refl four.0 in
    let t_is = passes is_char (codes "Tt") t refl four.1 in
    let f_is = passes is_char (codes "Ff") f refl three.1 in
    let hyphen_is : is_char hyphen ≡ true = ap is_char (eqb-true hyphen 45 two.1) in
    let eight_is : is_char eight ≡ true = ap is_char (eqb-true eight 56 one.1) in
    (λ i. u_is i && (t_is i && (f_is i && (hyphen_is i && (eight_is i && true)))))
name_good _ e = absurd cc

encoding_good : (encoding : List ℕ) → IsEncoding encoding → list_all is_char encoding ≡ true
encoding_good encoding (inl e) = ap (list_all is_char) e
encoding_good encoding (inr n) = ap (list_all is_char) n.whole ∙ all_append is_char n.gap n.name (blank_good n.gap n.blank) (name_good n.name n.utf_8)

-- the characters of a header
abbrev header_of : {text rest : List ℕ} → HasHeader text rest → List ℕ
header_of h = h.mark ++ (codes "#ABNF" ++ (h.blanks ++ (codes "1.0" ++ (h.encoding ++ (h.tail ++ 59 ∷ [])))))

header_good : (text rest : List ℕ) (h : HasHeader text rest) → list_all is_char (header_of h) ≡ true
header_good text rest h =
    let tail : List ℕ = h.tail ++ 59 ∷ [] in
    let name : List ℕ = h.encoding ++ tail in
    let version : List ℕ = codes "1.0" ++ name in
    let blanks : List ℕ = h.blanks ++ version in
    all_append is_char h.mark (codes "#ABNF" ++ blanks) (mark_good h.mark h.marked)
    (all_append is_char (codes "#ABNF") blanks refl
    (all_append is_char h.blanks version (blank_good h.blanks h.blank)
    (all_append is_char (codes "1.0") name refl
    (all_append is_char h.encoding tail (encoding_good h.encoding h.encoded) (all_append is_char h.tail (59 ∷ []) (blank_good h.tail h.blank_tail) refl)))))

parts : (mark blanks encoding tail rest : List ℕ)
    → mark ++ (codes "#ABNF" ++ (blanks ++ (codes "1.0" ++ (encoding ++ (tail ++ 59 ∷ rest))))) ≡ (mark ++ (codes "#ABNF" ++ (blanks ++ (codes "1.0" ++ (encoding ++ (tail ++ 59 ∷ [])))))) ++ rest
parts mark blanks encoding tail rest = sym (simp append_assoc)

passed_is : (text : List ℕ) (h : HasHeader text (behind_header text).rest) → (behind_header text).passed ≡ header_of h
passed_is text h =
    append_cancel_right (behind_header text).passed (header_of h) (behind_header text).rest
    (behind_header-whole text ∙ (h.whole ∙ parts h.mark h.blanks h.encoding h.tail (behind_header text).rest))

pub record GoodHeader (text : List ℕ) : Type 0 where
  pub clean : bad_characters [] (behind_header text).passed ≡ []
  pub some : 0 < length (behind_header text).passed

pub good_header : (text : List ℕ) → header_faults text ≡ [] → GoodHeader text
good_header text e =
    let h = header_form text e in
    let passed = passed_is text h in
    record {
      clean = ap (bad_characters []) passed ∙ none_bad [] (header_of h) (header_good text (behind_header text).rest h);
      some = omega (arith, ap length passed, length-append h.mark (codes "#ABNF" ++ (h.blanks ++ (codes "1.0" ++ (h.encoding ++ (h.tail ++ 59 ∷ []))))));
    }
