-- The lexemes of a script: their forms, and how a text is cut into them (this project's profile of ECMA-262's lexical grammar).
use Rattle.std.specs.Prelude.{◌≡◌, ◌≢◌, ℕ, pos, ◌+◌, ◌*◌, ◌-◌, ◌≤◌, ◌⊎◌, Bool, true, false, not, nat_le, ◌==◌, ◌&&◌, ◌||◌, List, [], ◌∷◌, ◌++◌, length, Some, if◌then◌else◌, fold, codes}
use Rattle.std.specs.List.{list_all}
use Rattle.vg_base.specs.Characters.{is_space, is_name, is_name_start}
use Rattle.vg_base.specs.Limits.{script_number}
use Rattle.script_reader.specs.declared.lexing.lexeme.Sign.{Sign}
use Rattle.script_reader.specs.declared.lexing.lexeme.Lexeme.{Lexeme}
use Rattle.script_reader.specs.declared.lexing.lexeme.Lexeme.TheVariants as l
use Rattle.script_reader.specs.Signs.{sign_text}
use Rattle.script_reader.specs.Strings.{unit, escape, is_high, is_low, pair_value}
use Rattle.script_reader.specs.Letters.{line_feed, carriage_return, double_quote, single_quote, dollar, zero_digit, nine_digit, backslash, letter_u}

-- ---- characters

abbrev pub is_digit : ℕ → Bool
is_digit c = nat_le zero_digit c && nat_le c nine_digit

-- what a word begins with, and what it goes on with
abbrev pub is_word_start : ℕ → Bool
is_word_start c = is_name_start c || c == dollar

abbrev pub is_word : ℕ → Bool
is_word c = is_name c || c == dollar

abbrev pub is_within_line : ℕ → Bool
is_within_line c = not (c == carriage_return || c == line_feed)

-- the value of decimal digits
abbrev pub digit_of : ℕ → ℕ
digit_of c = c - zero_digit

abbrev pub number_value : List ℕ → ℕ
number_value digits = fold (λ n c. n * 10 + digit_of c) 0 digits

-- the greatest number, 2^53 - 1
abbrev pub greatest : ℕ
greatest = script_number

-- ---- strings

-- a character as it may be spelled between quotes
pub data IsCharacter (quote : ℕ) (slice : List ℕ) (c : ℕ) : Type 0 where
  -- by itself: no backslash, no line end, not the quote
  itself : slice ≡ c ∷ [] → c ≢ backslash → c ≢ quote → c ≢ line_feed → c ≢ carriage_return → IsCharacter quote slice c
  -- by a backslash and a character for it
  short : (x : ℕ) → slice ≡ backslash ∷ x ∷ [] → x ≢ letter_u → escape x ≡ Some c → IsCharacter quote slice c
  -- by four hexadecimal digits
  coded : (a b d e : ℕ) → slice ≡ backslash ∷ letter_u ∷ a ∷ b ∷ d ∷ e ∷ [] → unit a b d e ≡ Some c → is_high c ≡ false → is_low c ≡ false → IsCharacter quote slice c
  -- by a pair of surrogates
  pair : (a b d e a' b' d' e' high low : ℕ) → slice ≡ backslash ∷ letter_u ∷ a ∷ b ∷ d ∷ e ∷ backslash ∷ letter_u ∷ a' ∷ b' ∷ d' ∷ e' ∷ [] → unit a b d e ≡ Some high → unit a' b' d' e' ≡ Some low
      → is_high high ≡ true → is_low low ≡ true → c ≡ pair_value high low → IsCharacter quote slice c

-- the text spells these characters, one after another
abbrev pub AreCharacters : ℕ → List ℕ → List ℕ → Type 0
AreCharacters quote text [] = text ≡ []
AreCharacters quote text (c ∷ cs) = (slice : List ℕ) × (rest : List ℕ) × (text ≡ slice ++ rest) × IsCharacter quote slice c × AreCharacters quote rest cs

-- a string in `"` or `'`, and what it spells
abbrev pub IsString : List ℕ → List ℕ → Type 0
IsString slice decoded =
    (quote : ℕ) × (inside : List ℕ) × ((quote ≡ double_quote) ⊎ (quote ≡ single_quote)) × (slice ≡ quote ∷ (inside ++ quote ∷ [])) × AreCharacters quote inside decoded

-- ---- forms

pub data Kind : Type 0 where
  Blank : Kind
  LineComment : Kind
  BlockComment : Kind
  Word : Kind
  Number : Kind
  Str : Kind
  Mark : Kind

abbrev pub EachPasses : (ℕ → Bool) → List ℕ → Type 0
EachPasses p s = list_all p s ≡ true

-- `*/` does not stand in it
abbrev pub LacksClose : List ℕ → Type 0
LacksClose s = (before after : List ℕ) → s ≢ before ++ (codes "*/" ++ after)

-- a `/` before `/` or `*` begins a comment
abbrev pub OpensComment : List ℕ → Type 0
OpensComment text = (rest : List ℕ) × ((text ≡ codes "//" ++ rest) ⊎ (text ≡ codes "/*" ++ rest))

-- the slice, before this rest, has the form of its kind
abbrev pub HasForm : Kind → List ℕ → List ℕ → Type 0
HasForm Blank s rest = (c : ℕ) × (more : List ℕ) × (s ≡ c ∷ more) × EachPasses is_space s
HasForm LineComment s rest = (inside : List ℕ) × (s ≡ codes "//" ++ inside) × EachPasses is_within_line inside
HasForm BlockComment s rest = (inside : List ℕ) × (s ≡ codes "/*" ++ (inside ++ codes "*/")) × LacksClose (inside ++ codes "*")
HasForm Word s rest = (c : ℕ) × (more : List ℕ) × (s ≡ c ∷ more) × (is_word_start c ≡ true) × EachPasses is_word more
HasForm Number s rest = (c : ℕ) × (more : List ℕ) × (s ≡ c ∷ more) × (is_digit c ≡ true) × EachPasses is_digit more × (c ≡ zero_digit → more ≡ [])
HasForm Str s rest = (decoded : List ℕ) × IsString s decoded
HasForm Mark s rest = (sign : Sign) × (s ≡ sign_text sign) × (OpensComment (s ++ rest) → ⊥)

-- the slice is the longest front of slice and rest that has a form
pub record Longest (kind : Kind) (slice rest : List ℕ) : Type 0 where
  pub form : HasForm kind slice rest
  pub longest : (other : Kind) (longer more : List ℕ) → slice ++ rest ≡ longer ++ more → HasForm other longer more → length longer ≤ length slice

-- no slice has a form
abbrev pub NoForm : List ℕ → Type 0
NoForm text = (kind : Kind) (slice rest : List ℕ) → text ≡ slice ++ rest → HasForm kind slice rest → ⊥

-- ---- lexemes

-- a number that is too large is no lexeme of any script
abbrev pub number_lexeme : List ℕ → Lexeme
number_lexeme digits = if nat_le (number_value digits) greatest then l.Number (pos (number_value digits)) digits else l.Bad

-- the lexemes that a slice of this kind stands for: one, or none where it only separates
abbrev pub StandsFor : Kind → List ℕ → List Lexeme → Type 0
StandsFor Blank s found = found ≡ []
StandsFor LineComment s found = found ≡ []
StandsFor BlockComment s found = found ≡ []
StandsFor Word s found = found ≡ l.Word s ∷ []
StandsFor Number s found = found ≡ number_lexeme s ∷ []
StandsFor Str s found = (decoded : List ℕ) × IsString s decoded × (found ≡ l.Str decoded ∷ [])
StandsFor Mark s found = (sign : Sign) × (s ≡ sign_text sign) × (found ≡ l.Sign sign ∷ [])

pub record Piece : Type 0 where
  pub kind : Kind
  pub slice : List ℕ
  pub found : List Lexeme

-- the text is these pieces, each cut as long as may be, and then a rest
abbrev pub Cuts : List ℕ → List Piece → List ℕ → Type 0
Cuts text [] stop = text ≡ stop
Cuts text (p ∷ ps) stop = (rest : List ℕ) × (text ≡ p.slice ++ rest) × Longest p.kind p.slice rest × StandsFor p.kind p.slice p.found × Cuts rest ps stop

abbrev pub lexemes : List Piece → List Lexeme
lexemes [] = []
lexemes (p ∷ ps) = p.found ++ lexemes ps
