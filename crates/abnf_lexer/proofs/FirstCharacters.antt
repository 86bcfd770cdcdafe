-- The first characters of lexemes, and the one at which a cutting stops: each moves the place on (`lexeme_moves`, `stop_moves`), so no later fault
-- stands at the same place.
use Rattle.std.proofs.Common.{◌≡◌, ℕ, ◌<◌, Bool, true, false, not, ◌&&◌, ◌||◌, ◌==◌, ◌⊎◌, inl, inr, List, [], ◌∷◌, ◌++◌, length, codes, refl, ap, ◌∙◌, arith}
use Rattle.std.specs.List.{list_all}
use Rattle.std.proofs.lemmas.Bool.{and_parts, or_cases, or_right, eqb-true, both_ways}
use Rattle.std.proofs.lemmas.Bool.Decides.{nat_tests}
use Rattle.vg_base.specs.Characters.{is_space, is_char}
use Rattle.vg_base.specs.Cut.{BeginsNone}
use Rattle.vg_base.specs.Places.{is_within_line, ends_line, last_of, takes_column, moves_on}
use Rattle.vg_base.proofs.Ascii.{passes}
use Rattle.abnf_lexer.specs.declared.lexemes.LexKind.{LexKind}
use Rattle.abnf_lexer.specs.declared.lexemes.LexKind.TheVariants as lex
use Rattle.abnf_lexer.specs.declared.lexemes.PieceKind.TheVariants.{WhiteSpace, Lexeme}
use Rattle.abnf_lexer.specs.Classes.{is_one_of, is_sign, is_special, is_bare}
use Rattle.abnf_lexer.specs.Forms.{HasForm}
use Rattle.abnf_lexer.proofs.Found.{sign_not_space}
use Rattle.abnf_lexer.proofs.Pieces.{bare_sound, space_sound}

-- ---- what moves on

no_space : (c d : ℕ) → is_space d ≡ true → is_space c ≡ false → (c == d) ≡ false
no_space c d s e = by_case (c == d) refl
  where
    by_case : (b : Bool) → (c == d) ≡ b → b ≡ false
    by_case false q = refl
    by_case true q = absurd (both_ways _ e (ap is_space (eqb-true c d q) ∙ s))

some_front : (front : List ℕ) → 0 < length front → (length front == 0) ≡ false
some_front front h = grind (arith, nat_tests)

and_false : (a : Bool) → (a && false) ≡ false
and_false true = refl
and_false false = refl

-- what isn't white space takes a column, behind another character
moves : (front : List ℕ) (c : ℕ) → 0 < length front → is_space c ≡ false → moves_on front c ≡ true
moves front c some e =
    let within : is_within_line c ≡ true = (λ i. not (no_space c 13 refl e i || no_space c 10 refl e i)) in
    let unmarked : (c == 0xFEFF && length front == 0) ≡ false = ap (λ b. c == 0xFEFF && b) (some_front front some) ∙ and_false (c == 0xFEFF) in
    or_right (ends_line (last_of front) c) (takes_column front c) (λ i. within i && not (unmarked i))

-- ---- lexemes

-- the slice has a first character, which moves on behind the front
pub record Moves (front slice : List ℕ) : Type 0 where
  pub first : ℕ
  pub more : List ℕ
  pub whole : slice ≡ first ∷ more
  pub moves : moves_on front first ≡ true

abbrev at_first : (front slice : List ℕ) (c : ℕ) (more : List ℕ) → 0 < length front → slice ≡ c ∷ more → is_space c ≡ false → Moves front slice
at_first front slice c more some e h = record { first = c; more = more; whole = e; moves = moves front c some h }

not_space : (a b : Bool) → not (a || b) ≡ true → a ≡ false
not_space false b e = refl
not_space true b e = absurd cc

bare_moves : (front slice rest : List ℕ) → 0 < length front → HasForm (Lexeme lex.Bare) slice rest → Moves front slice
bare_moves front [] rest some h = absurd (h.some refl)
bare_moves front (c ∷ more) rest some h = at_first front (c ∷ more) c more some refl (not_space (is_space c) (is_special c) (and_parts (is_bare c) (list_all is_bare more) h.run.each).0)

pub lexeme_moves : (kind : LexKind) (front slice rest : List ℕ) → 0 < length front → HasForm (Lexeme kind) slice rest → Moves front slice
lexeme_moves lex.Bare front slice rest some h = bare_moves front slice rest some h
lexeme_moves lex.Quoted front slice rest some h = at_first front slice 34 (h.inside ++ codes "\"") some h.whole refl
lexeme_moves lex.Name front slice rest some h = at_first front slice 36 (h.first ∷ h.others) some h.whole refl
lexeme_moves lex.UriRef front slice rest some h = at_first front slice 36 ((60 ∷ (h.enclosed.inside ++ codes ">")) ++ h.media) some (h.whole ∙ ap (λ (l : List ℕ). l ++ h.media) h.enclosed.whole) refl
lexeme_moves lex.Angle front slice rest some h = at_first front slice 60 ((h.enclosed.inside ++ codes ">") ++ h.media) some (h.whole ∙ ap (λ (l : List ℕ). l ++ h.media) h.enclosed.whole) refl
lexeme_moves lex.Weight front slice rest some h = at_first front slice 47 (h.enclosed.inside ++ codes "/") some h.enclosed.whole refl
lexeme_moves lex.Language front slice rest some h = at_first front slice 33 h.code some h.whole refl
lexeme_moves lex.Tag front slice rest some (inl h) = at_first front slice 123 (33 ∷ 123 ∷ (h.inside ++ codes "}!}")) some h.whole refl
lexeme_moves lex.Tag front slice rest some (inr h) = at_first front slice 123 (h.0.inside ++ codes "}") some h.0.whole refl
lexeme_moves lex.Sign front slice rest some h = at_first front slice h.sign [] some h.whole (sign_not_space h.sign h.is_sign)

-- ---- where no piece begins

no_bare : (c : ℕ) (cs : List ℕ) → BeginsNone HasForm (c ∷ cs) → is_bare c ≡ false
no_bare c cs stuck = by_case (is_bare c) refl
  where
    by_case : (b : Bool) → is_bare c ≡ b → b ≡ false
    by_case false e = refl
    by_case true e = let s = bare_sound c cs e in absurd (stuck (Lexeme lex.Bare) s.slice s.rest s.parts s.has_form)

no_white : (c : ℕ) (cs : List ℕ) → BeginsNone HasForm (c ∷ cs) → is_space c ≡ false
no_white c cs stuck = by_case (is_space c) refl
  where
    by_case : (b : Bool) → is_space c ≡ b → b ≡ false
    by_case false e = refl
    by_case true e = let s = space_sound c cs e in absurd (stuck WhiteSpace s.slice s.rest s.parts s.has_form)

one_left : (a b : Bool) → not (a || b) ≡ false → a ≡ false → b ≡ true
one_left false true e h = refl
one_left false false e h = absurd cc
one_left true b e h = absurd cc

-- the character there is one that a document may have, and moves on
pub record Stops (front : List ℕ) (c : ℕ) : Type 0 where
  pub allowed : is_char c ≡ true
  pub moves : moves_on front c ≡ true

pub stop_moves : (front : List ℕ) (c : ℕ) (cs : List ℕ) → 0 < length front → BeginsNone HasForm (c ∷ cs) → Stops front c
stop_moves front c cs some stuck =
    let white = no_white c cs stuck in
    record { allowed = allowed (or_cases (is_sign c) (is_one_of (codes "<>{}/$\"!") c) (one_left (is_space c) (is_special c) (no_bare c cs stuck) white)); moves = moves front c some white }
  where
    allowed : (is_sign c ≡ true) ⊎ (is_one_of (codes "<>{}/$\"!") c ≡ true) → is_char c ≡ true
    allowed (inl e) = passes is_char (codes ";=|()[]") c refl e
    allowed (inr e) = passes is_char (codes "<>{}/$\"!") c refl e
