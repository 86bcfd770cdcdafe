-- The lines of bytes.
use Rattle.std.specs.Prelude.{◌≡◌, ℕ, ◌+◌, ◌<◌, ◌≢◌, Bool, true, false, List, [], ◌∷◌, ◌++◌, length, ◌==◌, ◌⊎◌, if◌then◌else◌, None, Some}
use Rattle.std.specs.declared.option.Option.{Option}
use Rattle.std.specs.List.{All, onto_first}
use Rattle.std.specs.Io.KnownBytes.{Consumes}

-- The lines: each ends at a line feed, and what stands behind the last line feed is a line where it
-- has a byte.
unfoldable pub lines_of : List ℕ → List (List ℕ)
lines_of [] = []
lines_of (b ∷ bs) =
    if b == 10 then [] ∷ lines_of bs else onto_first b (lines_of bs)

-- b at the front of the first of the lines, where there is one
abbrev pub onto_some_first : ℕ → List (List ℕ) → List (List ℕ)
onto_some_first b [] = []
onto_some_first b (line ∷ lines) = (b ∷ line) ∷ lines

-- the lines that end at a line feed
unfoldable pub whole_lines_of : List ℕ → List (List ℕ)
whole_lines_of [] = []
whole_lines_of (b ∷ bs) =
    if b == 10 then [] ∷ whole_lines_of bs else onto_some_first b (whole_lines_of bs)

abbrev pub HasNoFeed : List ℕ → Type 0
HasNoFeed bytes = All (λ b. b ≢ 10) bytes

-- This line is the first of the bytes' lines, and the rest has the others. The rest stands behind
-- the line's feed; where the end of input was met, the line is all of the bytes and has no feed.
pub record BeginsWithLine (bytes line rest : List ℕ) (ended : Bool) : Type 0 where
  pub first : lines_of bytes ≡ line ∷ lines_of rest
  pub no_feed : HasNoFeed line
  pub cut : ((ended ≡ false) × (bytes ≡ line ++ 10 ∷ rest))
      ⊎ ((ended ≡ true) × (bytes ≡ line) × (0 < length line) × (rest ≡ []))

-- where bytes are told, the line is the next one
abbrev pub GivesLine : Option (List ℕ) → Option (List ℕ) → Bool → List ℕ → Type 0
GivesLine None after ended line = Unit {0}
GivesLine (Some bytes) None ended line = ⊥
GivesLine (Some bytes) (Some rest) ended line = BeginsWithLine bytes line rest ended

-- bytes are told, and their first line is past the limit
abbrev pub BeginsLong : ℕ → Option (List ℕ) → Type 0
BeginsLong limit None = ⊥
BeginsLong limit (Some bytes) =
    (line : List ℕ) × (others : List (List ℕ)) × (lines_of bytes ≡ line ∷ others)
    × (limit < length line)

-- bytes are told, and there are none
abbrev pub IsKnownEmpty : Option (List ℕ) → Type 0
IsKnownEmpty left = left ≡ Some []

-- where bytes are told, what was taken and not given has no line feed
abbrev pub LeavesNoLine : Option (List ℕ) → Option (List ℕ) → Type 0
LeavesNoLine None after = Unit {0}
LeavesNoLine (Some bytes) None = ⊥
LeavesNoLine (Some bytes) (Some rest) = (front : List ℕ) × HasNoFeed front × (bytes ≡ front ++ rest)

-- the source lost these bytes, where it tells them, and they are counted
abbrev pub TakesBytes : Option (List ℕ) → Option (List ℕ) → ℕ → ℕ → Type 0
TakesBytes before after count_before count_after =
    (bytes : List ℕ) × Consumes before after bytes × (count_before + length bytes ≡ count_after)

-- these lines, each with its line feed
abbrev pub with_feeds : List (List ℕ) → List ℕ
with_feeds [] = []
with_feeds (line ∷ lines) = line ++ 10 ∷ with_feeds lines

-- what stands behind the last line feed is a line where it has a byte
abbrev pub last_line : List ℕ → List (List ℕ)
last_line [] = []
last_line (b ∷ bs) = (b ∷ bs) ∷ []
