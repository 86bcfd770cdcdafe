-- The words of a text: its longest runs of characters that aren't white space (SRGS 1.0 section 2.1).
use Rattle.std.specs.Prelude.{◌≡◌, ◌≢◌, ℕ, Bool, not, List, [], ◌∷◌, ◌++◌, Option, Some, None}
use Rattle.std.specs.List.{filter_map}
use Rattle.vg_base.specs.Characters.{is_space}
use Rattle.vg_base.specs.Cut.{Piece, Cuts}
use Rattle.vg_base.specs.Runs.{IsRun, IsWhiteSpace}

-- what a text is cut into
pub data Stretch : Type 0 where
  Space : Stretch
  Spoken : Stretch

abbrev pub is_spoken : ℕ → Bool
is_spoken c = not (is_space c)

-- a longest run of other characters
pub record IsWordHere (slice rest : List ℕ) : Type 0 where
  pub run : IsRun is_spoken slice rest
  pub some : slice ≢ []

abbrev pub HasForm : Stretch → List ℕ → List ℕ → Type 0
HasForm Space slice rest = IsWhiteSpace slice rest
HasForm Spoken slice rest = IsWordHere slice rest

-- a stretch as a word, or none
abbrev pub word_of : Stretch → List ℕ → Option (List ℕ)
word_of Space slice = None
word_of Spoken slice = Some slice

abbrev pub words_in : List (Piece Stretch) → List (List ℕ)
words_in stretches = filter_map (λ stretch. word_of stretch.kind stretch.slice) stretches

-- the words of a text, in order: the text is cut into white space and words, to its end
abbrev pub AreWords : List (List ℕ) → List ℕ → Type 0
AreWords words text = (stretches : List (Piece Stretch)) × Cuts HasForm text stretches [] × (words ≡ words_in stretches)

-- the words of several texts: of each, one text after another
abbrev pub AreWordsOf : List (List ℕ) → List (List ℕ) → Type 0
AreWordsOf words [] = words ≡ []
AreWordsOf words (text ∷ texts) =
    (first others : List (List ℕ)) × AreWords first text × AreWordsOf others texts × (words ≡ first ++ others)
