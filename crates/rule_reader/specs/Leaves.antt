-- The leaves of a document as it is written that mean something, and what stands there in its text.
use Rattle.std.specs.Prelude.{◌≡◌, ℕ, List, [], ◌∷◌, ◌++◌, Option}
use Rattle.std.specs.List.{flat_map}
use Rattle.vg_base.specs.Cut.{Piece}
use Rattle.abnf_lexer.specs.declared.lexemes.LexKind.{LexKind}
use Rattle.abnf_lexer.specs.declared.lexemes.Spanned.{Spanned}
use Rattle.abnf_lexer.specs.Insides.{IsInside}
use Rattle.abnf_lexer.specs.Lexing.{Shows}
use Rattle.abnf_parser.specs.declared.written.Written.{Written}
use Rattle.abnf_parser.specs.declared.written.Written.TheOpen.{Written-F}
use Rattle.abnf_parser.specs.declared.written.Written.TheFolds.{fold-Written}

-- tokens, names and references, tags, weights, and the numbers of repeats
pub data Leaf : Type 0 where
  token : Spanned → Leaf
  name : Spanned → Leaf
  reference : Spanned → Leaf
  tag : Spanned → Leaf
  weight : Spanned → Leaf
  times : Spanned → Leaf

-- one level, with the leaves of each part in its place
abbrev pub leaves_of_level : Written-F (List Leaf) → List Leaf
leaves_of_level (Written-F.Token span) = token span ∷ []
leaves_of_level (Written-F.Name span) = name span ∷ []
leaves_of_level (Written-F.UriRef span) = reference span ∷ []
leaves_of_level (Written-F.Tag span) = tag span ∷ []
leaves_of_level Written-F.Nothing = []
leaves_of_level (Written-F.Sequence parts) = flat_map (λ leaves. leaves) parts
leaves_of_level (Written-F.Alternatives parts) = flat_map (λ leaves. leaves) parts
leaves_of_level (Written-F.Weighted span inner) = weight span ∷ inner
leaves_of_level (Written-F.Optional inner) = inner
leaves_of_level (Written-F.Repeated span inner) = times span ∷ inner

abbrev pub leaves : Written → List Leaf
leaves = fold-Written (List Leaf) leaves_of_level

-- ---- what stands there

-- these characters stand where the span tells
abbrev pub HasSlice : List ℕ → Spanned → List ℕ → Type 0
HasSlice text span slice = (piece : Piece LexKind) × Shows text span piece × (slice ≡ piece.slice)

-- these characters stand between the marks of the lexeme there
abbrev pub HasInside : List ℕ → Spanned → List ℕ → Type 0
HasInside text span inside = (slice : List ℕ) × HasSlice text span slice × ((media : Option (List ℕ)) × IsInside span.kind inside media slice)
