-- The piece that is found at the front of a text has its form.
use Rattle.std.proofs.Common.{◌≡◌, ◌≢◌, ℕ, ◌+◌, Bool, true, false, cond, ◌==◌, inl, inr, Option, Some, None, List, [], ◌∷◌, ◌++◌, length, take, drop, codes, nat_eq, refl, sym, ap, subst, ◌∙◌, arith, append_assoc}
use Rattle.std.specs.List.{prefix_len, starts_with}
use Rattle.std.proofs.lemmas.Bool.{eqb-true, cond_both, both_ways}
use Rattle.std.proofs.lemmas.Bool.Decides.{nat_tests}
use Rattle.std.proofs.lemmas.List.{take_at}
use Rattle.vg_base.specs.Characters.{is_space, is_name_start, is_name}
use Rattle.vg_base.specs.Places.{is_within_line}
use Rattle.abnf_lexer.specs.declared.lexemes.PieceKind.{PieceKind}
use Rattle.abnf_lexer.specs.declared.lexemes.PieceKind.TheVariants.{WhiteSpace, LineComment, BlockComment, Lexeme}
use Rattle.abnf_lexer.specs.declared.lexemes.LexKind.TheVariants as lex
use Rattle.abnf_lexer.specs.declared.front.Cut.{Cut}
use Rattle.abnf_lexer.specs.Classes.{is_sign, is_bare, is_code_character}
use Rattle.abnf_lexer.specs.Forms.{IsAngled, HasForm}
use Rattle.abnf_lexer.specs.code.Front.{is_code, cut, cut_at, angled, dollar, slash, language, tag, front}
use Rattle.vg_base.specs.Runs.{begins, enclosed_len}
use Rattle.vg_base.proofs.LongestRuns.{Run, run_of}
use Rattle.vg_base.proofs.Closings.{begins_so, so_begins}
use Rattle.abnf_lexer.proofs.CodeForms.{code_form}
use Rattle.vg_base.proofs.Enclosures.{Slice, SliceAt, Enclosed, enclosed_of}
use Rattle.abnf_lexer.proofs.Angles.{angled_of}

abbrev pub Sound : List ℕ → Option Cut → Type 0
Sound text None = Unit {0}
Sound text (Some cut) = Slice (HasForm cut.kind) text cut.len

-- a slice of one form is a piece of a kind
as_kind : (kind : PieceKind) (form : List ℕ → List ℕ → Type 0) (text : List ℕ) (o : Option ℕ) → ((slice rest : List ℕ) → text ≡ slice ++ rest → form slice rest → HasForm kind slice rest)
    → SliceAt form text o → Sound text (cut_at kind o)
as_kind kind form text None f s = tt
as_kind kind form text (Some n) f s = record { slice = s.slice; rest = s.rest; parts = s.parts; long = s.long; has_form = f s.slice s.rest s.parts s.has_form }

eqb-same : (x : ℕ) → (x == x) ≡ true
eqb-same x = grind (arith, nat_tests)

not_empty : (xs : List ℕ) (n : ℕ) → length xs ≡ 1 + n → xs ≢ []
not_empty xs n e q = absurd (omega (arith, ap length q))

run_from : (p : ℕ → Bool) (c : ℕ) (cs : List ℕ) → p c ≡ true → Run p (c ∷ cs) (1 + prefix_len p cs)
run_from p c cs e = subst (λ b. Run p (c ∷ cs) (cond b (1 + prefix_len p cs) 0)) e (run_of p (c ∷ cs))

pub bare_sound : (c : ℕ) (cs : List ℕ) → is_bare c ≡ true → Sound (c ∷ cs) (cut (Lexeme lex.Bare) (1 + prefix_len is_bare cs))
bare_sound c cs e = let r = run_from is_bare c cs e in record {
  slice = r.run;
  rest = r.rest;
  parts = r.parts;
  long = r.long;
  has_form = record { run = r.is_run; some = not_empty r.run (prefix_len is_bare cs) r.long };
}

pub space_sound : (c : ℕ) (cs : List ℕ) → is_space c ≡ true → Sound (c ∷ cs) (cut WhiteSpace (1 + prefix_len is_space cs))
space_sound c cs e = let r = run_from is_space c cs e in record {
  slice = r.run;
  rest = r.rest;
  parts = r.parts;
  long = r.long;
  has_form = record { run = r.is_run; some = not_empty r.run (prefix_len is_space cs) r.long };
}

sign_sound : (c : ℕ) (cs : List ℕ) → is_sign c ≡ true → Sound (c ∷ cs) (cut (Lexeme lex.Sign) 1)
sign_sound c cs e = record { slice = c ∷ []; rest = cs; parts = refl; long = refl; has_form = record { sign = c; whole = refl; is_sign = e } }

quoted_sound : (cs : List ℕ) → Sound (34 ∷ cs) (cut_at (Lexeme lex.Quoted) (enclosed_len 1 (codes "\"") (34 ∷ cs)))
quoted_sound cs = as_kind (Lexeme lex.Quoted) (Enclosed (codes "\"") (codes "\"")) (34 ∷ cs) (enclosed_len 1 (codes "\"") (34 ∷ cs)) (λ slice rest parts h. h) (enclosed_of (codes "\"") (codes "\"") (34 ∷ cs) cs refl)

angle_sound : (cs : List ℕ) → Sound (60 ∷ cs) (cut_at (Lexeme lex.Angle) (angled 1 (60 ∷ cs)))
angle_sound cs = as_kind (Lexeme lex.Angle) (IsAngled (codes "<")) (60 ∷ cs) (angled 1 (60 ∷ cs)) (λ slice rest parts h. h) (angled_of (codes "<") (60 ∷ cs) cs refl)

uri_sound : (cs : List ℕ) → Sound (36 ∷ 60 ∷ cs) (cut_at (Lexeme lex.UriRef) (angled 2 (36 ∷ 60 ∷ cs)))
uri_sound cs = as_kind (Lexeme lex.UriRef) (IsAngled (codes "$<")) (36 ∷ 60 ∷ cs) (angled 2 (36 ∷ 60 ∷ cs)) (λ slice rest parts h. h) (angled_of (codes "$<") (36 ∷ 60 ∷ cs) cs refl)

name_sound : (c : ℕ) (cs : List ℕ) → is_name_start c ≡ true → Sound (36 ∷ c ∷ cs) (cut (Lexeme lex.Name) (2 + prefix_len is_name cs))
name_sound c cs e = let r = run_of is_name cs in record {
  slice = 36 ∷ c ∷ r.run;
  rest = r.rest;
  parts = ap (λ (l : List ℕ). 36 ∷ c ∷ l) r.parts;
  long = let long = r.long in omega arith;
  has_form = record { first = c; others = r.run; whole = refl; starts = e; run = r.is_run };
}

dollar_sound : (cs : List ℕ) → Sound (36 ∷ cs) (dollar (36 ∷ cs))
dollar_sound [] = tt
dollar_sound (c ∷ cs) =
    cond_both (c == 60) _ _ (Sound (36 ∷ c ∷ cs))
    (λ e. subst (λ d. Sound (36 ∷ d ∷ cs) (cut_at (Lexeme lex.UriRef) (angled 2 (36 ∷ d ∷ cs)))) (sym (eqb-true c 60 e)) (uri_sound cs))
    (λ e. cond_both (is_name_start c) _ _ (Sound (36 ∷ c ∷ cs)) (name_sound c cs) (λ f. tt))

line_sound : (cs : List ℕ) → Sound (47 ∷ 47 ∷ cs) (cut LineComment (2 + prefix_len is_within_line cs))
line_sound cs = let r = run_of is_within_line cs in record {
  slice = 47 ∷ 47 ∷ r.run;
  rest = r.rest;
  parts = ap (λ (l : List ℕ). 47 ∷ 47 ∷ l) r.parts;
  long = let long = r.long in omega arith;
  has_form = record { inside = r.run; whole = refl; run = r.is_run };
}

block_sound : (cs : List ℕ) → Sound (47 ∷ 42 ∷ cs) (cut_at BlockComment (enclosed_len 2 (codes "*/") (47 ∷ 42 ∷ cs)))
block_sound cs = as_kind BlockComment (Enclosed (codes "/*") (codes "*/")) (47 ∷ 42 ∷ cs) (enclosed_len 2 (codes "*/") (47 ∷ 42 ∷ cs)) (λ slice rest parts h. h) (enclosed_of (codes "/*") (codes "*/") (47 ∷ 42 ∷ cs) cs refl)

-- what the whole text doesn't begin with, its slice doesn't
pub not_begun : (text slice rest start : List ℕ) → text ≡ slice ++ rest → starts_with nat_eq text start ≡ false → starts_with nat_eq slice start ≡ false
not_begun text slice rest start parts e = by_case (starts_with nat_eq slice start) refl
  where
    by_case : (b : Bool) → starts_with nat_eq slice start ≡ b → b ≡ false
    by_case false h = refl
    by_case true h =
        let begun : text ≡ start ++ (drop (length start) slice ++ rest) = parts ∙ (ap (λ (l : List ℕ). l ++ rest) (begins_so slice start h) ∙ append_assoc start (drop (length start) slice) rest) in
        absurd (both_ways _ e (so_begins text start (drop (length start) slice ++ rest) begun))

second : (x : ℕ) (cs : List ℕ) → begins (λ c. c == x) cs ≡ false → starts_with nat_eq (47 ∷ cs) (47 ∷ x ∷ []) ≡ false
second x cs e = by_case (starts_with nat_eq (47 ∷ cs) (47 ∷ x ∷ [])) refl
  where
    tails : (xs ys : List ℕ) → 47 ∷ xs ≡ 47 ∷ ys → xs ≡ ys
    tails xs ys q = cc

    by_case : (b : Bool) → starts_with nat_eq (47 ∷ cs) (47 ∷ x ∷ []) ≡ b → b ≡ false
    by_case false h = refl
    by_case true h =
        let begun = tails cs (x ∷ drop 2 (47 ∷ cs)) (begins_so (47 ∷ cs) (47 ∷ x ∷ []) h) in
        let same : begins (λ c. c == x) cs ≡ (x == x) = ap (begins (λ c. c == x)) begun in
        absurd (both_ways _ e (same ∙ eqb-same x))

weight_sound : (cs : List ℕ) → begins (λ c. c == 47) cs ≡ false → begins (λ c. c == 42) cs ≡ false → Sound (47 ∷ cs) (cut_at (Lexeme lex.Weight) (enclosed_len 1 (codes "/") (47 ∷ cs)))
weight_sound cs e f =
    as_kind (Lexeme lex.Weight) (Enclosed (codes "/") (codes "/")) (47 ∷ cs) (enclosed_len 1 (codes "/") (47 ∷ cs))
    (λ slice rest parts h. record { enclosed = h; no_line = not_begun (47 ∷ cs) slice rest (codes "//") parts (second 47 cs e); no_block = not_begun (47 ∷ cs) slice rest (codes "/*") parts (second 42 cs f) })
    (enclosed_of (codes "/") (codes "/") (47 ∷ cs) cs refl)

slash_sound : (cs : List ℕ) → Sound (47 ∷ cs) (slash (47 ∷ cs))
slash_sound [] = weight_sound [] refl refl
slash_sound (c ∷ cs) =
    cond_both (c == 47) _ _ (Sound (47 ∷ c ∷ cs))
    (λ e. subst (λ d. Sound (47 ∷ d ∷ cs) (cut LineComment (2 + prefix_len is_within_line cs))) (sym (eqb-true c 47 e)) (line_sound cs))
    (λ e. cond_both (c == 42) _ _ (Sound (47 ∷ c ∷ cs))
    (λ f. subst (λ d. Sound (47 ∷ d ∷ cs) (cut_at BlockComment (enclosed_len 2 (codes "*/") (47 ∷ d ∷ cs)))) (sym (eqb-true c 42 f)) (block_sound cs))
    (λ f. weight_sound (c ∷ cs) e f))

language_sound : (cs : List ℕ) → Sound (33 ∷ cs) (language (33 ∷ cs))
language_sound cs =
    let r = run_of is_code_character cs in
    cond_both (is_code (take (prefix_len is_code_character cs) cs)) _ _ (Sound (33 ∷ cs))
    (λ e. of_run r (subst (λ (l : List ℕ). is_code l ≡ true) (ap (take (prefix_len is_code_character cs)) r.parts ∙ take_at r.run r.rest (prefix_len is_code_character cs) r.long) e))
    (λ e. tt)
  where
    of_run : (r : Run is_code_character cs (prefix_len is_code_character cs)) → is_code r.run ≡ true → Sound (33 ∷ cs) (cut (Lexeme lex.Language) (1 + prefix_len is_code_character cs))
    of_run r e = record {
      slice = 33 ∷ r.run;
      rest = r.rest;
      parts = ap (λ (l : List ℕ). 33 ∷ l) r.parts;
      long = let long = r.long in omega arith;
      has_form = record { code = r.run; whole = refl; run = r.is_run; is_code = code_form r.run e };
    }

tag_sound : (cs : List ℕ) → Sound (123 ∷ cs) (tag (123 ∷ cs))
tag_sound cs =
    cond_both (starts_with nat_eq (123 ∷ cs) (codes "{!{")) _ _ (Sound (123 ∷ cs))
    (λ e. as_kind (Lexeme lex.Tag) (Enclosed (codes "{!{") (codes "}!}")) (123 ∷ cs) (enclosed_len 3 (codes "}!}") (123 ∷ cs)) (λ slice rest parts h. inl h)
    (enclosed_of (codes "{!{") (codes "}!}") (123 ∷ cs) (drop 3 (123 ∷ cs)) (begins_so (123 ∷ cs) (codes "{!{") e)))
    (λ e. as_kind (Lexeme lex.Tag) (Enclosed (codes "{") (codes "}")) (123 ∷ cs) (enclosed_len 1 (codes "}") (123 ∷ cs)) (λ slice rest parts h. inr (h, not_begun (123 ∷ cs) slice rest (codes "{!{") parts e))
    (enclosed_of (codes "{") (codes "}") (123 ∷ cs) cs refl))

pub front_sound : (text : List ℕ) → Sound text (front text)
unfolding front
front_sound [] = tt
front_sound (c ∷ cs) =
    cond_both (is_bare c) _ _ (Sound (c ∷ cs)) (bare_sound c cs) (λ _.
    cond_both (is_space c) _ _ (Sound (c ∷ cs)) (space_sound c cs) (λ _.
    cond_both (is_sign c) _ _ (Sound (c ∷ cs)) (sign_sound c cs) (λ _.
    cond_both (c == 34) _ _ (Sound (c ∷ cs)) (λ e. subst (λ d. Sound (d ∷ cs) (cut_at (Lexeme lex.Quoted) (enclosed_len 1 (codes "\"") (d ∷ cs)))) (sym (eqb-true c 34 e)) (quoted_sound cs)) (λ _.
    cond_both (c == 36) _ _ (Sound (c ∷ cs)) (λ e. subst (λ d. Sound (d ∷ cs) (dollar (d ∷ cs))) (sym (eqb-true c 36 e)) (dollar_sound cs)) (λ _.
    cond_both (c == 60) _ _ (Sound (c ∷ cs)) (λ e. subst (λ d. Sound (d ∷ cs) (cut_at (Lexeme lex.Angle) (angled 1 (d ∷ cs)))) (sym (eqb-true c 60 e)) (angle_sound cs)) (λ _.
    cond_both (c == 47) _ _ (Sound (c ∷ cs)) (λ e. subst (λ d. Sound (d ∷ cs) (slash (d ∷ cs))) (sym (eqb-true c 47 e)) (slash_sound cs)) (λ _.
    cond_both (c == 33) _ _ (Sound (c ∷ cs)) (λ e. subst (λ d. Sound (d ∷ cs) (language (d ∷ cs))) (sym (eqb-true c 33 e)) (language_sound cs)) (λ _.
    cond_both (c == 123) _ _ (Sound (c ∷ cs)) (λ e. subst (λ d. Sound (d ∷ cs) (tag (d ∷ cs))) (sym (eqb-true c 123 e)) (tag_sound cs)) (λ _. tt)))))))))
