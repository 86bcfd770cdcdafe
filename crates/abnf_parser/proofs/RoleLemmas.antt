-- The lexemes of a text, one by one.
use Rattle.std.proofs.Common.{◌≡◌, ℕ, zero, suc, ◌+◌, ◌⊎◌, inl, inr, List, [], ◌∷◌, ◌++◌, length, Some, refl, sym, subst, ap, ◌∙◌, length-append}
use Rattle.std.proofs.lemmas.Option.{none-some, same_Some}
use Rattle.std.specs.Prelude.{slice_get}
use Rattle.vg_base.specs.Cut.{Piece}
use Rattle.abnf_lexer.specs.declared.lexemes.LexKind.{LexKind}
use Rattle.abnf_lexer.specs.declared.lexemes.PieceKind.TheVariants as kinds
use Rattle.abnf_lexer.specs.declared.lexemes.Spanned.{Spanned}
use Rattle.abnf_lexer.specs.Forms.{HasForm}
use Rattle.abnf_lexer.specs.Lexing.{Shows, ShowsEach}
use Rattle.abnf_parser.specs.declared.lexeme.Lexeme.{Lexeme}
use Rattle.abnf_parser.specs.Roles.{StandsAs, Stands}
use Rattle.abnf_parser.specs.Texts.{EachStands}

-- the lexemes up to an index
pub record SoFar (spans : List Spanned) (pieces : List (Piece LexKind)) (lexemes : List Lexeme) (index : ℕ) : Type 0 where
  pub count : length lexemes ≡ index
  pub each : (k : ℕ) (span : Spanned) (piece : Piece LexKind) (x : Lexeme) → slice_get spans k ≡ Some span → slice_get pieces k ≡ Some piece
      → slice_get lexemes k ≡ Some x → Stands span piece.slice x

-- an element of a list with one more at its end
one_of : {X : Type 0} (xs : List X) (y z : X) (k : ℕ) → slice_get (xs ++ y ∷ []) k ≡ Some z → (slice_get xs k ≡ Some z) ⊎ ((k ≡ length xs) × (z ≡ y))
one_of [] y z zero e = inr (refl, sym (same_Some y z e))
one_of [] y z (suc k) e = absurd (none-some z e)
one_of (x ∷ xs) y z zero e = inl e
one_of (x ∷ xs) y z (suc k) e = by_case (one_of xs y z k e)
  where
    by_case : (slice_get xs k ≡ Some z) ⊎ ((k ≡ length xs) × (z ≡ y)) → (slice_get (x ∷ xs) (suc k) ≡ Some z) ⊎ ((suc k ≡ length (x ∷ xs)) × (z ≡ y))
    by_case (inl h) = inl h
    by_case (inr h) = inr (ap suc h.0, h.1)

-- one more
pub one_more : (spans : List Spanned) (pieces : List (Piece LexKind)) (lexemes : List Lexeme) (index : ℕ) (x : Lexeme) → SoFar spans pieces lexemes index
    → ((span : Spanned) (piece : Piece LexKind) → slice_get spans index ≡ Some span → slice_get pieces index ≡ Some piece → Stands span piece.slice x)
    → SoFar spans pieces (lexemes ++ x ∷ []) (index + 1)
one_more spans pieces lexemes index x so_far stands = record {
  count = length-append lexemes (x ∷ []) ∙ ap (λ n. n + 1) so_far.count;
  each = λ k span piece y h g e. by_case k span piece y h g (one_of lexemes x y k e);
}
  where
    by_case : (k : ℕ) (span : Spanned) (piece : Piece LexKind) (y : Lexeme) → slice_get spans k ≡ Some span → slice_get pieces k ≡ Some piece
        → (slice_get lexemes k ≡ Some y) ⊎ ((k ≡ length lexemes) × (y ≡ x)) → Stands span piece.slice y
    by_case k span piece y h g (inl e) = so_far.each k span piece y h g e
    by_case k span piece y h g (inr e) =
        let here : index ≡ k = sym (e.0 ∙ so_far.count) in
        subst (λ z. Stands span piece.slice z) (sym e.1) (stands span piece (ap (slice_get spans) here ∙ h) (ap (slice_get pieces) here ∙ g))

pub none : (spans : List Spanned) (pieces : List (Piece LexKind)) → SoFar spans pieces [] 0
none spans pieces = record { count = refl; each = λ k span piece x h g e. absurd (none-some x e) }

-- all
pub all : (text : List ℕ) (spans : List Spanned) (pieces : List (Piece LexKind)) (lexemes : List Lexeme) → ShowsEach text spans pieces → SoFar spans pieces lexemes (length spans) → EachStands spans pieces lexemes
all text spans pieces lexemes shows so_far = record { as_pieces = sym shows.count; as_lexemes = so_far.count; each = so_far.each }

-- ---- as they are read

abbrev pub Shown : List ℕ → List Spanned → List Lexeme → ℕ → Type 0
Shown text spans lexemes index = (pieces : List (Piece LexKind)) → ShowsEach text spans pieces → SoFar spans pieces lexemes index

pub next : (text : List ℕ) (spans : List Spanned) (lexemes : List Lexeme) (index : ℕ) (span : Spanned) (x : Lexeme) → Shown text spans lexemes index → slice_get spans index ≡ Some span
    → ((piece : Piece LexKind) → Shows text span piece → Stands span piece.slice x) → Shown text spans (lexemes ++ x ∷ []) (index + 1)
next text spans lexemes index span x so_far there stands pieces shows = one_more spans pieces lexemes index x (so_far pieces shows) at
  where
    at : (other : Spanned) (piece : Piece LexKind) → slice_get spans index ≡ Some other → slice_get pieces index ≡ Some piece → Stands other piece.slice x
    at other piece h g =
        let same : span ≡ other = same_Some span other (sym there ∙ h) in
        subst (λ s. Stands s piece.slice x) same (stands piece (subst (λ s. Shows text s piece) (sym same) (shows.each index other piece h g)))

-- ---- one kind

-- what holds where the kind is known
pub as_kind : (k other : LexKind) (span : Spanned) (slice seen : List ℕ) (x : Lexeme) → k ≡ other → seen ≡ slice
    → ((rest : List ℕ) → HasForm (kinds.Lexeme other) seen rest → StandsAs other span seen x) → (rest : List ℕ) → HasForm (kinds.Lexeme k) slice rest → StandsAs k span slice x
as_kind k other span slice seen x e h f rest form =
    subst (λ j. StandsAs j span slice x) (sym e) (subst (λ (s : List ℕ). StandsAs other span s x) h
    (f rest (subst (λ (s : List ℕ). HasForm (kinds.Lexeme other) s rest) (sym h) (subst (λ j. HasForm (kinds.Lexeme j) slice rest) e form))))
