-- How many words there are, and of how many bytes.
use Rattle.std.specs.Prelude.{◌≡◌, ℕ, ◌+◌, ◌≤◌, List, [], ◌∷◌, length}
use Rattle.vg_base.specs.Characters.{byte_len}
use Rattle.token_forms.specs.declared.counts.Amount.{Amount}

-- the bytes of several words
abbrev pub bytes_of : List (List ℕ) → ℕ
bytes_of [] = 0
bytes_of (word ∷ words) = byte_len word + bytes_of words

-- so many words, of so many bytes in all
pub record Amounts (amount : Amount) (all : List (List ℕ)) : Type 0 where
  pub words : amount.words ≡ length all
  pub bytes : amount.bytes ≡ bytes_of all

-- at most so many words, of at most so many bytes in all
pub record IsWithin (most : Amount) (all : List (List ℕ)) : Type 0 where
  pub words : length all ≤ most.words
  pub bytes : bytes_of all ≤ most.bytes
