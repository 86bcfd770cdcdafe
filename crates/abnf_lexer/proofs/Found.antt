-- Each form is found at the front of a text.
use Rattle.std.proofs.Common.{◌≡◌, ℕ, ◌+◌, ◌≤◌, Bool, true, false, not, ◌||◌, ◌==◌, inl, inr, List, [], ◌∷◌, ◌++◌, length, take, drop, codes, nat_eq, refl, sym, ap, subst, ◌∙◌, arith, append_assoc, length-append}
use Rattle.std.specs.List.{prefix_len, starts_with, list_all}
use Rattle.std.proofs.lemmas.Bool.{eqb-true, and_parts, or_right, both_ways}
use Rattle.std.proofs.lemmas.Bool.Decides.{nat_tests}
use Rattle.std.proofs.lemmas.List.{take_at}
use Rattle.vg_base.specs.Characters.{is_space, is_name_start, is_name}
use Rattle.vg_base.specs.Places.{is_within_line}
use Rattle.abnf_lexer.specs.declared.lexemes.PieceKind.{PieceKind}
use Rattle.abnf_lexer.specs.declared.lexemes.PieceKind.TheVariants.{WhiteSpace, LineComment, BlockComment, Lexeme}
use Rattle.abnf_lexer.specs.declared.lexemes.LexKind.TheVariants as lex
use Rattle.abnf_lexer.specs.Classes.{is_sign, is_special, is_bare, is_code_character}
use Rattle.abnf_lexer.specs.Forms.{IsAngled, IsBare, IsWeight, IsLanguage, IsTag, HasForm}
use Rattle.abnf_lexer.specs.code.Front.{is_code, cut, cut_at, angled, dollar, slash, language, tag, front}
use Rattle.vg_base.specs.Runs.{begins, IsRun, IsEnclosed, IsWhiteSpace, enclosed_len}
use Rattle.vg_base.proofs.LongestRuns.{run_len}
use Rattle.vg_base.proofs.Closings.{begins_so, so_begins, front_of}
use Rattle.abnf_lexer.proofs.CodeForms.{code_read}
use Rattle.vg_base.proofs.Enclosures.{enclosed_found}
use Rattle.abnf_lexer.proofs.Angles.{angled_found}

same_cut : (kind : PieceKind) (m n : ℕ) → m ≡ n → cut kind m ≡ cut kind n
same_cut kind m n e = ap (cut kind) e

-- ---- classes apart

space_not_bare : (c : ℕ) → is_space c ≡ true → is_bare c ≡ false
space_not_bare c e = ap (λ b. not (b || is_special c)) e

sign_not_bare : (c : ℕ) → is_sign c ≡ true → is_bare c ≡ false
sign_not_bare c e = ap not (or_right (is_space c) (is_special c) (rw e refl))

-- signs are no white space
pub sign_not_space : (c : ℕ) → is_sign c ≡ true → is_space c ≡ false
sign_not_space c e = grind (arith, nat_tests)

start_not_angle : (c : ℕ) → is_name_start c ≡ true → (c == 60) ≡ false
start_not_angle c e = by_case (c == 60) refl
  where
    at_angle : is_name_start 60 ≡ true → ⊥
    at_angle h = cc

    by_case : (b : Bool) → (c == 60) ≡ b → b ≡ false
    by_case false q = refl
    by_case true q = absurd (at_angle (ap is_name_start (sym (eqb-true c 60 q)) ∙ e))

-- ---- by the first characters

module _ (text tail : List ℕ) where
  at_quote : text ≡ 34 ∷ tail → front text ≡ cut_at (Lexeme lex.Quoted) (enclosed_len 1 (codes "\"") text)
  unfolding front
  at_quote e = subst (λ (t : List ℕ). front t ≡ cut_at (Lexeme lex.Quoted) (enclosed_len 1 (codes "\"") t)) (sym e) refl

  at_angle : text ≡ 60 ∷ tail → front text ≡ cut_at (Lexeme lex.Angle) (angled 1 text)
  unfolding front
  at_angle e = subst (λ (t : List ℕ). front t ≡ cut_at (Lexeme lex.Angle) (angled 1 t)) (sym e) refl

  at_reference : text ≡ 36 ∷ 60 ∷ tail → front text ≡ cut_at (Lexeme lex.UriRef) (angled 2 text)
  unfolding front
  at_reference e = subst (λ (t : List ℕ). front t ≡ cut_at (Lexeme lex.UriRef) (angled 2 t)) (sym e) refl

  at_block : text ≡ 47 ∷ 42 ∷ tail → front text ≡ cut_at BlockComment (enclosed_len 2 (codes "*/") text)
  unfolding front
  at_block e = subst (λ (t : List ℕ). front t ≡ cut_at BlockComment (enclosed_len 2 (codes "*/") t)) (sym e) refl

  at_slash : text ≡ 47 ∷ tail → front text ≡ slash text
  unfolding front
  at_slash e = subst (λ (t : List ℕ). front t ≡ slash t) (sym e) refl

  at_brace : text ≡ 123 ∷ tail → front text ≡ tag text
  unfolding front
  at_brace e = subst (λ (t : List ℕ). front t ≡ tag t) (sym e) refl

  at_line : front (47 ∷ 47 ∷ tail) ≡ cut LineComment (2 + prefix_len is_within_line tail)
  unfolding front
  at_line = refl

  at_bang : front (33 ∷ tail) ≡ language (33 ∷ tail)
  unfolding front
  at_bang = refl

  at_dollar : front (36 ∷ tail) ≡ dollar (36 ∷ tail)
  unfolding front
  at_dollar = refl

-- ---- each kind

bare_found : (slice rest : List ℕ) → IsBare slice rest → front (slice ++ rest) ≡ cut (Lexeme lex.Bare) (length slice)
unfolding front
bare_found [] rest h = absurd (h.some refl)
bare_found (c ∷ s) rest h =
    let both = and_parts (is_bare c) (list_all is_bare s) h.run.each in
    let long = run_len is_bare s rest (record { each = both.1; ends = h.run.ends }) in
    rw both.0 (same_cut (Lexeme lex.Bare) _ _ (omega arith))

space_found : (slice rest : List ℕ) → IsWhiteSpace slice rest → front (slice ++ rest) ≡ cut WhiteSpace (length slice)
unfolding front
space_found [] rest h = absurd (h.some refl)
space_found (c ∷ s) rest h =
    let both = and_parts (is_space c) (list_all is_space s) h.run.each in
    let long = run_len is_space s rest (record { each = both.1; ends = h.run.ends }) in
    rw (space_not_bare c both.0, both.0) (same_cut WhiteSpace _ _ (omega arith))

sign_found : (c : ℕ) (rest : List ℕ) → is_sign c ≡ true → front (c ∷ rest) ≡ cut (Lexeme lex.Sign) 1
unfolding front
sign_found c rest e = rw (sign_not_bare c e, sign_not_space c e, e) refl

quoted_found : (slice rest : List ℕ) → IsEnclosed (codes "\"") (codes "\"") slice → front (slice ++ rest) ≡ cut (Lexeme lex.Quoted) (length slice)
quoted_found slice rest h =
    at_quote (slice ++ rest) ((h.inside ++ 34 ∷ []) ++ rest) (ap (λ (l : List ℕ). l ++ rest) h.whole)
    ∙ ap (cut_at (Lexeme lex.Quoted)) (enclosed_found (codes "\"") (codes "\"") slice rest (omega arith) h)

block_found : (slice rest : List ℕ) → IsEnclosed (codes "/*") (codes "*/") slice → front (slice ++ rest) ≡ cut BlockComment (length slice)
block_found slice rest h =
    at_block (slice ++ rest) ((h.inside ++ codes "*/") ++ rest) (ap (λ (l : List ℕ). l ++ rest) h.whole)
    ∙ ap (cut_at BlockComment) (enclosed_found (codes "/*") (codes "*/") slice rest (omega arith) h)

angle_whole : (opening slice rest : List ℕ) (h : IsAngled opening slice rest) → slice ++ rest ≡ opening ++ ((h.enclosed.inside ++ codes ">") ++ (h.media ++ rest))
angle_whole opening slice rest h =
    ap (λ (l : List ℕ). l ++ rest) h.whole ∙ (append_assoc h.angle h.media rest
    ∙ (ap (λ (l : List ℕ). l ++ (h.media ++ rest)) h.enclosed.whole ∙ append_assoc opening (h.enclosed.inside ++ codes ">") (h.media ++ rest)))

angle_found : (slice rest : List ℕ) → IsAngled (codes "<") slice rest → front (slice ++ rest) ≡ cut (Lexeme lex.Angle) (length slice)
angle_found slice rest h =
    at_angle (slice ++ rest) ((h.enclosed.inside ++ codes ">") ++ (h.media ++ rest)) (angle_whole (codes "<") slice rest h) ∙ ap (cut_at (Lexeme lex.Angle)) (angled_found (codes "<") slice rest h)

reference_found : (slice rest : List ℕ) → IsAngled (codes "$<") slice rest → front (slice ++ rest) ≡ cut (Lexeme lex.UriRef) (length slice)
reference_found slice rest h =
    at_reference (slice ++ rest) ((h.enclosed.inside ++ codes ">") ++ (h.media ++ rest)) (angle_whole (codes "$<") slice rest h) ∙ ap (cut_at (Lexeme lex.UriRef)) (angled_found (codes "$<") slice rest h)

name_found : (c : ℕ) (s rest : List ℕ) → is_name_start c ≡ true → IsRun is_name s rest → front (36 ∷ c ∷ (s ++ rest)) ≡ cut (Lexeme lex.Name) (length (36 ∷ c ∷ s))
name_found c s rest e h =
    let long = run_len is_name s rest h in
    at_dollar [] (c ∷ (s ++ rest)) ∙ rw (start_not_angle c e, e) (same_cut (Lexeme lex.Name) _ _ (omega arith))

line_found : (s rest : List ℕ) → IsRun is_within_line s rest → front (47 ∷ 47 ∷ (s ++ rest)) ≡ cut LineComment (length (47 ∷ 47 ∷ s))
line_found s rest h = let long = run_len is_within_line s rest h in at_line [] (s ++ rest) ∙ same_cut LineComment _ _ (omega arith)

language_found : (code rest : List ℕ) → IsLanguage (33 ∷ code) rest → front (33 ∷ (code ++ rest)) ≡ cut (Lexeme lex.Language) (length (33 ∷ code))
language_found code rest h =
    let same : h.code ≡ code = tails h.code code h.whole in
    let run : IsRun is_code_character code rest = subst (λ (l : List ℕ). IsRun is_code_character l rest) same h.run in
    let long : prefix_len is_code_character (code ++ rest) ≡ length code = run_len is_code_character code rest run in
    let taken : take (prefix_len is_code_character (code ++ rest)) (code ++ rest) ≡ code = take_at code rest _ (sym long) in
    let read : is_code (take (prefix_len is_code_character (code ++ rest)) (code ++ rest)) ≡ true = ap is_code (taken ∙ sym same) ∙ code_read h.code h.is_code in
    at_bang [] (code ++ rest) ∙ rw read (same_cut (Lexeme lex.Language) _ _ (omega arith))
  where
    tails : (xs ys : List ℕ) → 33 ∷ ys ≡ 33 ∷ xs → xs ≡ ys
    tails xs ys q = cc

-- ---- a slice that begins a text tells what the text begins with, where it is long enough
long_begun : (slice rest start : List ℕ) → length start ≤ length slice → starts_with nat_eq slice start ≡ false → starts_with nat_eq (slice ++ rest) start ≡ false
long_begun slice rest start long e = by_case (starts_with nat_eq (slice ++ rest) start) refl
  where
    by_case : (b : Bool) → starts_with nat_eq (slice ++ rest) start ≡ b → b ≡ false
    by_case false h = refl
    by_case true h =
        let after = front_of start (drop (length start) (slice ++ rest)) slice rest (sym (begins_so (slice ++ rest) start h)) long in
        absurd (both_ways _ e (so_begins slice start after.0 after.1))

-- the second character of a weight
second_is : (x : ℕ) (text tail : List ℕ) → text ≡ 47 ∷ tail → starts_with nat_eq text (47 ∷ x ∷ []) ≡ false → begins (λ c. c == x) (drop 1 text) ≡ false
second_is x text tail e h = ap (λ (l : List ℕ). begins (λ c. c == x) (drop 1 l)) e ∙ of_tail tail e
  where
    of_tail : (tail : List ℕ) → text ≡ 47 ∷ tail → begins (λ c. c == x) tail ≡ false
    of_tail [] q = refl
    of_tail (c ∷ cs) q = by_case (c == x) refl
      where
        by_case : (b : Bool) → (c == x) ≡ b → b ≡ false
        by_case false r = refl
        by_case true r = absurd (both_ways _ h (so_begins text (47 ∷ x ∷ []) cs (q ∙ ap (λ d. 47 ∷ d ∷ cs) (eqb-true c x r))))

weight_found : (slice rest : List ℕ) → IsWeight slice → front (slice ++ rest) ≡ cut (Lexeme lex.Weight) (length slice)
weight_found slice rest h =
    let inside = h.enclosed.inside in
    let tail : List ℕ = (inside ++ codes "/") ++ rest in
    let whole : slice ++ rest ≡ 47 ∷ tail = ap (λ (l : List ℕ). l ++ rest) h.enclosed.whole in
    let long : 2 ≤ length slice = omega (arith, ap length h.enclosed.whole, length-append inside (codes "/")) in
    let no_line = second_is 47 (slice ++ rest) tail whole (long_begun slice rest (codes "//") long h.no_line) in
    let no_block = second_is 42 (slice ++ rest) tail whole (long_begun slice rest (codes "/*") long h.no_block) in
    at_slash (slice ++ rest) tail whole ∙ (rw (no_line, no_block) refl ∙ ap (cut_at (Lexeme lex.Weight)) (enclosed_found (codes "/") (codes "/") slice rest (omega arith) h.enclosed))

tag_found : (slice rest : List ℕ) → IsTag slice → front (slice ++ rest) ≡ cut (Lexeme lex.Tag) (length slice)
tag_found slice rest (inl h) =
    let tail : List ℕ = (h.inside ++ codes "}!}") ++ rest in
    let whole : slice ++ rest ≡ codes "{!{" ++ tail = ap (λ (l : List ℕ). l ++ rest) h.whole in
    at_brace (slice ++ rest) (33 ∷ 123 ∷ tail) whole ∙ (rw (so_begins (slice ++ rest) (codes "{!{") tail whole) refl ∙ ap (cut_at (Lexeme lex.Tag)) (enclosed_found (codes "{!{") (codes "}!}") slice rest (omega arith) h))
tag_found slice rest (inr h) =
    let tail : List ℕ = (h.0.inside ++ codes "}") ++ rest in
    let whole : slice ++ rest ≡ 123 ∷ tail = ap (λ (l : List ℕ). l ++ rest) h.0.whole in
    at_brace (slice ++ rest) tail whole ∙ (rw (short_begun h.0.inside h.0.whole) refl ∙ ap (cut_at (Lexeme lex.Tag)) (enclosed_found (codes "{") (codes "}") slice rest (omega arith) h.0))
  where
    short_begun : (inside : List ℕ) → slice ≡ 123 ∷ (inside ++ 125 ∷ []) → starts_with nat_eq (slice ++ rest) (codes "{!{") ≡ false
    short_begun [] q = ap (λ (l : List ℕ). starts_with nat_eq (l ++ rest) (codes "{!{")) q ∙ braces rest
      where
        braces : (more : List ℕ) → starts_with nat_eq (123 ∷ 125 ∷ more) (codes "{!{") ≡ false
        braces [] = refl
        braces (c ∷ more) = refl
    short_begun (c ∷ inside) q = long_begun slice rest (codes "{!{") (omega (arith, ap length q, length-append inside (125 ∷ []))) h.1

pub form_found : (kind : PieceKind) (slice rest : List ℕ) → HasForm kind slice rest → front (slice ++ rest) ≡ cut kind (length slice)
form_found WhiteSpace slice rest h = space_found slice rest h
form_found LineComment slice rest h = rw h.whole (line_found h.inside rest h.run)
form_found BlockComment slice rest h = block_found slice rest h
form_found (Lexeme lex.Bare) slice rest h = bare_found slice rest h
form_found (Lexeme lex.Quoted) slice rest h = quoted_found slice rest h
form_found (Lexeme lex.Name) slice rest h = rw h.whole (name_found h.first h.others rest h.starts h.run)
form_found (Lexeme lex.UriRef) slice rest h = reference_found slice rest h
form_found (Lexeme lex.Angle) slice rest h = angle_found slice rest h
form_found (Lexeme lex.Weight) slice rest h = weight_found slice rest h
form_found (Lexeme lex.Language) slice rest h = rw h.whole (language_found h.code rest (subst (λ (l : List ℕ). IsLanguage l rest) h.whole h))
form_found (Lexeme lex.Tag) slice rest h = tag_found slice rest h
form_found (Lexeme lex.Sign) slice rest h = rw h.whole (sign_found h.sign rest h.is_sign)
