-- Lemmas on the small form of texts: what is cut off a text of the form, is as the form says.
use Rattle.std.proofs.Common.{◌≡◌, ◌≢◌, ℕ, Bool, true, false, List, [], ◌∷◌, ◌++◌, ◌==◌, ◌&&◌, length, map, codes, None, Some, MatchOption, refl, inl, inr, sym, ap, ◌∙◌, subst, IsTrue, arith, length-append}
use Rattle.std.specs.declared.option.Option.{Option}
use Rattle.server_shell.specs.declared.first_form.form.Form.{Form}
use Rattle.std.specs.List.{list_all, Contains}
use Rattle.std.proofs.lemmas.List.{append_cancel_left, same_from_push}
use Rattle.std.proofs.lemmas.List.Splits.{slice_split_none, slice_split_at}
use Rattle.std.proofs.lemmas.List.Elements.{Contains-append_left, Contains-append_right, Contains-push_cases}
use Rattle.std.proofs.lemmas.Map.Made.{Contains-tail}
use Rattle.server_shell.specs.first_form.Forms.{SpellsForm, SpellsRest, SpellsRule, alternatives_of, is_alternative, is_plain_space, is_letter, parts_of}
use Rattle.server_shell.specs.code.TextCuts.{IsWithout, CutAtFirst}
use Rattle.server_shell.specs.first_form.Words.{words_in}
use Rattle.server_shell.proofs.first_form_lemmas.Cuts.{cut_once, not_cut, without_all}

behind_of : (xs ys : List ℕ) → 36 ∷ xs ≡ 36 ∷ ys → xs ≡ ys
behind_of xs ys e = cc

-- a rest of the form is cut at its first `=`: the spaces, and the alternatives with their `;`
rest-at : {text alternatives : List ℕ} → (s : SpellsRest text alternatives)
    → CutAtFirst 61 text s.spaces (alternatives ++ 59 ∷ [])
rest-at s = record { none = without_all is_plain_space 61 refl s.spaces s.blank; cut = s.cut }

-- a rest without `=` is none
pub rest-none : {text alternatives : List ℕ} → IsWithout 61 text → SpellsRest text alternatives → ⊥
rest-none none s = not_cut none (rest-at s)

-- what stands before the first `=` are the spaces, and behind it the alternatives and `;`
pub rest-cut : {text spaces behind alternatives : List ℕ} → CutAtFirst 61 text spaces behind
    → (s : SpellsRest text alternatives) → (spaces ≡ s.spaces) × (behind ≡ alternatives ++ 59 ∷ [])
rest-cut at s = cut_once at (rest-at s)

pub rest-empty : (behind alternatives : List ℕ) → length behind ≡ 0
    → behind ≡ alternatives ++ 59 ∷ [] → ⊥
rest-empty behind alternatives none cut =
    absurd (omega (arith, ap length cut, length-append alternatives (59 ∷ [])))

-- the alternatives are those of the form
pub rest-last : {text spaces behind alternatives : List ℕ} (front : List ℕ) (last : ℕ)
    → CutAtFirst 61 text spaces behind → behind ≡ front ++ last ∷ [] → SpellsRest text alternatives
    → (last ≡ 59) × IsTrue (list_all is_plain_space spaces)
    × IsTrue (list_all is_alternative (parts_of front))
rest-last {alternatives = alternatives} front last at snoc s =
    let (same, tail) = rest-cut at s in
    let (whole, end) = same_from_push front alternatives last 59 (sym snoc ∙ tail) in (
      end,
      subst (λ l. IsTrue (list_all is_plain_space l)) (sym same) s.blank,
      subst (λ l. IsTrue (list_all is_alternative (parts_of l))) (sym whole) s.each,
    )

-- what stands before the first `;` is the name
pub rule-cut : {text front behind name alternatives : List ℕ} → CutAtFirst 59 text front behind
    → (s : SpellsRule text name alternatives) → (front ≡ name) × (behind ≡ 36 ∷ (name ++ s.rest))
rule-cut {name = name} at s =
    cut_once at (record {
      none = without_all is_letter 59 refl name s.is_name.letters;
      cut = s.cut;
    })

-- the name behind `;$` is the same, and what stands behind it is the rest
pub rule-again : {text front behind again name alternatives : List ℕ}
    → CutAtFirst 59 text front behind → behind ≡ 36 ∷ again
    → (s : SpellsRule text name alternatives)
    → again ≡ front ++ s.rest
rule-again {again = again} {name = name} at dollar s =
    let (is, tail) = rule-cut at s in
    behind_of again (name ++ s.rest) (sym dollar ∙ tail) ∙ ap (λ l. l ++ s.rest) (sym is)

pub rule-rest : {text front behind again name alternatives : List ℕ} (rest : List ℕ)
    → CutAtFirst 59 text front behind → behind ≡ 36 ∷ again → again ≡ front ++ rest
    → SpellsRule text name alternatives → SpellsRest rest alternatives
rule-rest {front = front} {alternatives = alternatives} rest at dollar same s =
    let rests : rest ≡ s.rest = append_cancel_left front rest s.rest (sym same
    ∙ rule-again at dollar s) in
    subst (λ l. SpellsRest l alternatives) (sym rests) s.rule

-- the parts of a text with a bar, and of one without
pub parts_of-at : {text part rest : List ℕ} → CutAtFirst 124 text part rest
    → parts_of text ≡ part ∷ parts_of rest
parts_of-at {part = part} {rest = rest} at = ap parts_of at.cut
    ∙ slice_split_at (λ c. c == 124) part 124 rest at.none refl

pub parts_of-none : (text : List ℕ) → IsWithout 124 text → parts_of text ≡ text ∷ []
parts_of-none text none = slice_split_none (λ c. c == 124) text none

pub and-true_right : (b : Bool) → (b && true) ≡ b
and-true_right true = refl
and-true_right false = refl

Contains-first : {X : Type 0} (x : X) (xs : List X) → Contains (x ∷ xs) x
Contains-first x xs = Contains-append_left (x ∷ []) xs x (0, omega arith, refl)

-- an alternative is the first, or one of the others
module _ {text part behind : List ℕ} (at : CutAtFirst 124 text part behind)
    (words : List (List ℕ)) where
  alternatives-are : alternatives_of text ≡ words_in part ∷ alternatives_of behind
  alternatives-are = ap (map words_in) (parts_of-at at)

  pub alternatives-first : words_in part ≡ words → Contains (alternatives_of text) words
  alternatives-first same =
      subst (λ l. Contains l words) (sym alternatives-are)
      (subst (λ w. Contains (words_in part ∷ alternatives_of behind) w) same
      (Contains-first (words_in part) (alternatives_of behind)))

  pub alternatives-more : Contains (alternatives_of behind) words
      → Contains (alternatives_of text) words
  alternatives-more there =
      subst (λ l. Contains l words) (sym alternatives-are)
      (Contains-append_right (words_in part ∷ []) (alternatives_of behind) words there)

  pub alternatives-others : words_in part ≢ words → Contains (alternatives_of text) words
      → Contains (alternatives_of behind) words
  alternatives-others other there =
      Contains-tail (words_in part) (alternatives_of behind) words other
      (subst (λ l. Contains l words) alternatives-are there)

-- a text without a bar has one alternative
pub alternatives-one : (text : List ℕ) (words : List (List ℕ)) → IsWithout 124 text
    → (words_in text ≡ words → Contains (alternatives_of text) words)
    × (Contains (alternatives_of text) words → words_in text ≡ words)
alternatives-one text words none =
    let one : alternatives_of text ≡ words_in text ∷ [] =
    ap (map words_in) (parts_of-none text none) in (
      λ same. subst (λ l. Contains l words) (sym one)
          (subst (λ w. Contains (words_in text ∷ []) w) same (Contains-first (words_in text) [])),
      λ there. elim (Contains-push_cases [] (words_in text) words
          (subst (λ l. Contains l words) one there)) [
            | inl (
              k,
              low,
              at,
            ) ↦ absurd (omega arith)
            | inr same ↦ same
          ],
    )

-- behind the head stands a rule, or none
pub text-read : (text rest : List ℕ) → text ≡ codes "#ABNF 1.0;root $" ++ rest → (o : Option Form)
    → MatchOption o ((name alternatives : List ℕ) → ¬ SpellsRule rest name alternatives)
    (λ form. SpellsRule rest form.name.now form.alternatives.now)
    → MatchOption o ((name alternatives : List ℕ) → ¬ SpellsForm text name alternatives)
    (λ form. SpellsForm text form.name.now form.alternatives.now)
text-read text rest cut None none = λ name alternatives s.
    none name alternatives (subst (λ l. SpellsRule l name alternatives)
    (append_cancel_left (codes "#ABNF 1.0;root $") s.rest rest (sym s.cut ∙ cut)) s.rule)
text-read text rest cut (Some form) rule = record { rest = rest; cut = cut; rule = rule }
