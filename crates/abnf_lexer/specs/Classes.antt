-- Classes of characters that tell lexemes apart (this project's profile of SRGS 1.0, grammars in ABNF form).
use Rattle.std.specs.Prelude.{ℕ, Bool, true, false, not, ◌||◌, ◌==◌, List, [], ◌∷◌, codes}
use Rattle.std.specs.List.{list_any}
use Rattle.vg_base.specs.Characters.{Ranges, lies_in, is_space}

abbrev pub is_empty : List ℕ → Bool
is_empty [] = true
is_empty _ = false

-- the character is one of these
abbrev pub is_one_of : List ℕ → ℕ → Bool
is_one_of characters c = list_any (λ d. d == c) characters

abbrev pub is_sign : ℕ → Bool
is_sign = is_one_of (codes ";=|()[]")

-- signs, and the other characters that no bare word has
abbrev pub is_special : ℕ → Bool
is_special c = is_sign c || is_one_of (codes "<>{}/$\"!") c

abbrev pub is_bare : ℕ → Bool
is_bare c = not (is_space c || is_special c)

abbrev pub letters : Ranges
letters = (0x41, 0x5A) ∷ (0x61, 0x7A) ∷ []

abbrev pub is_letter : ℕ → Bool
is_letter = lies_in letters

abbrev pub is_letter_or_digit : ℕ → Bool
is_letter_or_digit = lies_in ((0x41, 0x5A) ∷ (0x61, 0x7A) ∷ (0x30, 0x39) ∷ [])

-- what the code of a language is made of
abbrev pub is_code_character : ℕ → Bool
is_code_character c = is_letter_or_digit c || c == 45

-- what may not follow a name
abbrev pub is_joint : ℕ → Bool
is_joint = is_one_of (codes ".:-")

-- space and tab
abbrev pub is_blank : ℕ → Bool
is_blank = is_one_of (32 ∷ 9 ∷ [])

-- what the version and the name of the encoding are made of: no white space, no `;`
abbrev pub is_field : ℕ → Bool
is_field c = not (is_space c || c == 59)
