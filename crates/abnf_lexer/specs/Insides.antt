-- What stands between the marks of a lexeme, and the media type behind an Angle or a reference.
use Rattle.std.specs.Prelude.{◌≡◌, ◌⊎◌, ℕ, false, nat_eq, List, [], ◌∷◌, ◌++◌, Option, Some, None, codes}
use Rattle.std.specs.List.{starts_with}
use Rattle.vg_base.specs.Runs.{ReachesFirst}
use Rattle.abnf_lexer.specs.declared.lexemes.LexKind.{LexKind}
use Rattle.abnf_lexer.specs.declared.lexemes.LexKind.TheVariants as lex

-- the text is an opening, this up to the next closing, that, and what is left
pub record IsBetween (opening close inside behind text : List ℕ) : Type 0 where
  pub whole : text ≡ opening ++ (inside ++ (close ++ behind))
  pub first : ReachesFirst close inside

-- no media type, or one between its marks
abbrev pub MediaIs : Option (List ℕ) → (text : List ℕ) → Type 0
MediaIs None text = text ≡ []
MediaIs (Some media) text = IsBetween (codes "~<") (codes ">") media [] text

-- in angles, and behind them a media type or none
pub record IsInAngles (opening inside : List ℕ) (media : Option (List ℕ)) (slice : List ℕ) : Type 0 where
  pub behind : List ℕ
  pub between : IsBetween opening (codes ">") inside behind slice
  pub has_media : MediaIs media behind

-- a tag's inside is told by its opening
abbrev pub IsInTag : (inside slice : List ℕ) → Type 0
IsInTag inside slice =
    IsBetween (codes "{!{") (codes "}!}") inside [] slice
    ⊎ (IsBetween (codes "{") (codes "}") inside [] slice × (starts_with nat_eq slice (codes "{!{") ≡ false))

-- of a slice of this kind these are the characters between its marks, and this its media type
abbrev pub IsInside : LexKind → (inside : List ℕ) → (media : Option (List ℕ)) → (slice : List ℕ) → Type 0
IsInside lex.UriRef inside media slice = IsInAngles (codes "$<") inside media slice
IsInside lex.Angle inside media slice = IsInAngles (codes "<") inside media slice
IsInside kind inside (Some media) slice = ⊥
IsInside lex.Bare inside None slice = slice ≡ inside
IsInside lex.Quoted inside None slice = IsBetween (codes "\"") (codes "\"") inside [] slice
IsInside lex.Name inside None slice = slice ≡ 36 ∷ inside
IsInside lex.Weight inside None slice = IsBetween (codes "/") (codes "/") inside [] slice
IsInside lex.Language inside None slice = slice ≡ 33 ∷ inside
IsInside lex.Tag inside None slice = IsInTag inside slice
IsInside lex.Sign inside None slice = slice ≡ inside

-- no characters are the inside of a slice of this kind
abbrev pub HasNoInside : LexKind → (slice : List ℕ) → Type 0
HasNoInside kind slice = (inside : List ℕ) (media : Option (List ℕ)) → IsInside kind inside media slice → ⊥
