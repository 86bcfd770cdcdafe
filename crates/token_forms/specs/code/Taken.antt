-- What the code takes from the front of a text, and what it leaves of an allowance.
use Rattle.std.specs.Prelude.{◌≡◌, ℕ, ◌+◌, Bool, if◌then◌else◌, List, [], ◌∷◌, ◌++◌, length, Option, option_map}
use Rattle.std.specs.Char.{encode_utf8}
use Rattle.vg_base.specs.Characters.{is_space}
use Rattle.token_forms.specs.Counts.{bytes_of}
use Rattle.token_forms.specs.Keys.{Sign, IsSign, spelling, key_of}
use Rattle.token_forms.specs.Words.{AreWords}
use Rattle.token_forms.specs.declared.counts.Amount.{Amount}

-- the text is a sign, which stands for this key or none, and a rest
pub record TakesSign (text : List ℕ) (key : Option ℕ) (rest : List ℕ) : Type 0 where
  pub sign : Sign
  pub is_sign : IsSign sign
  pub whole : text ≡ spelling sign ++ rest
  pub means : key_of sign ≡ option_map (λ c. c ∷ []) key

-- a text's words stand behind those that were there
abbrev pub Adds : (old new : List (List ℕ)) → (text : List ℕ) → Type 0
Adds old new text = (words : List (List ℕ)) × AreWords words text × (new ≡ old ++ words)

-- what is left of an allowance behind words
pub record Leaves (most left : Amount) (all : List (List ℕ)) : Type 0 where
  pub words : length all + left.words ≡ most.words
  pub bytes : bytes_of all + left.bytes ≡ most.bytes

-- what a character costs: a word that begins with it, and its bytes in a word
abbrev pub word_cost : (inside : Bool) → ℕ → ℕ
word_cost inside c = if is_space c then 0 else if inside then 0 else 1

abbrev pub byte_cost : ℕ → ℕ
byte_cost c = if is_space c then 0 else length (encode_utf8 c)
