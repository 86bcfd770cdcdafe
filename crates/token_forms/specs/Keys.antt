-- The keys of a telephone, and the texts that spell them (SRGS 1.0 appendix E).
use Rattle.std.specs.Prelude.{◌≡◌, ◌≢◌, ℕ, Bool, true, ◌==◌, List, [], ◌∷◌, length, Option, Some, None, Result, Ok, Err, codes}
use Rattle.std.specs.List.{list_any, filter_map}
use Rattle.vg_base.specs.Characters.{is_space}
use Rattle.token_forms.specs.declared.keys.BadKey.{BadKey}
use Rattle.vg_base.specs.Cut.{Piece, characters, Cuts, IsCut}

-- the sixteen keys
abbrev pub is_key : ℕ → Bool
is_key c = list_any (λ key. key == c) (codes "0123456789*#ABCD")

-- What a text of keys is cut into: keys by their own characters, `star` and `pound`, and characters of white space.
pub data Sign : Type 0 where
  Key : ℕ → Sign
  Star : Sign
  Pound : Sign
  Space : ℕ → Sign

abbrev pub IsSign : Sign → Type 0
IsSign (Key c) = is_key c ≡ true
IsSign Star = Unit {0}
IsSign Pound = Unit {0}
IsSign (Space c) = is_space c ≡ true

-- how a sign is written
abbrev pub spelling : Sign → List ℕ
spelling (Key c) = c ∷ []
spelling Star = codes "star"
spelling Pound = codes "pound"
spelling (Space c) = c ∷ []

-- the key that a sign stands for: a word of one character
abbrev pub key_of : Sign → Option (List ℕ)
key_of (Key c) = Some (c ∷ [])
key_of Star = Some (codes "*")
key_of Pound = Some (codes "#")
key_of (Space c) = None

-- a sign has this form whatever stands behind it
pub record HasForm (sign : Sign) (slice rest : List ℕ) : Type 0 where
  pub is_sign : IsSign sign
  pub spelt : slice ≡ spelling sign

abbrev pub keys_in : List (Piece Sign) → List (List ℕ)
keys_in signs = filter_map (λ sign. key_of sign.kind) signs

-- the text is cut into signs, to its end, which stand for these keys
abbrev pub AreKeys : List (List ℕ) → List ℕ → Type 0
AreKeys keys text = (signs : List (Piece Sign)) × Cuts HasForm text signs [] × (keys ≡ keys_in signs)

-- behind signs the text has a rest that isn't empty and that no sign begins; it begins at this place
pub record IsBadKeyAt (at : ℕ) (text : List ℕ) : Type 0 where
  pub signs : List (Piece Sign)
  pub rest : List ℕ
  pub is_cut : IsCut HasForm text signs rest
  pub some : rest ≢ []
  pub place : at ≡ length (characters signs)

-- the keys of a text, or where it stops to spell keys
abbrev pub Spells : List ℕ → Result (List (List ℕ)) BadKey → Type 0
Spells text (Ok keys) = AreKeys keys text
Spells text (Err bad) = IsBadKeyAt bad.at text

-- how many keys a text has, or where it stops to spell keys
abbrev pub SpellsSoMany : List ℕ → Result ℕ BadKey → Type 0
SpellsSoMany text (Ok number) = (keys : List (List ℕ)) × AreKeys keys text × (number ≡ length keys)
SpellsSoMany text (Err bad) = IsBadKeyAt bad.at text
