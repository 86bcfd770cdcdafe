-- Words of texts, which stand between white space.
use Rattle.std.specs.Prelude.{ℕ, ◌+◌, nat_lt, List, [], ◌∷◌, length, Bool}
use Rattle.std.specs.List.{slice_split, filter, flat_map}
use Rattle.vg_base.specs.Characters.{is_space, byte_len}

abbrev pub has_character : List ℕ → Bool
has_character part = nat_lt 0 (length part)

-- the words of a text: its parts between white space, without the empty ones
abbrev pub words_in : List ℕ → List (List ℕ)
words_in text = filter has_character (slice_split is_space text)

-- the words of several texts, one text after another
abbrev pub words_of : List (List ℕ) → List (List ℕ)
words_of texts = flat_map words_in texts

-- how many bytes the words take in UTF-8
abbrev pub bytes_in : List (List ℕ) → ℕ
bytes_in [] = 0
bytes_in (w ∷ ws) = byte_len w + bytes_in ws
