-- Numbers: of repeats, and the form of a weight or a probability (SRGS 1.0 sections 2.4.1 and 2.5).
use Rattle.std.specs.Prelude.{◌≡◌, ◌≢◌, ℕ, ◌+◌, ◌*◌, ◌-◌, ◌<◌, ◌⊎◌, true, List, [], ◌∷◌, ◌++◌, Option, Some, None, fold}
use Rattle.std.specs.List.{list_all}
use Rattle.vg_base.specs.Limits as limits
use Rattle.abnf_lexer.specs.Repeats.{is_digit, Most, Same, Endless, UpTo}
use Rattle.token_forms.specs.Words.{AreWords}

-- ---- repeats

-- the number that digits are
abbrev pub number_of : List ℕ → ℕ
number_of = fold (λ number digit. number * 10 + (digit - 48)) 0

-- at most how often; None without a bound
abbrev pub most_of : List ℕ → Most → Option ℕ
most_of least Same = Some (number_of least)
most_of least Endless = None
most_of least (UpTo digits) = Some (number_of digits)

-- the most is below the least
abbrev pub IsBelow : Option ℕ → ℕ → Type 0
IsBelow None least = ⊥
IsBelow (Some most) least = most < least

-- the number is past the greatest of a repeat
abbrev pub IsPast : Option ℕ → Type 0
IsPast None = ⊥
IsPast (Some number) = limits.repeat < number

-- ---- weights and probabilities

-- `n`, `n.`, `.n` or `n.n`: digits, and a dot with digits or nothing
pub record IsDecimal (text whole behind : List ℕ) : Type 0 where
  pub each_whole : list_all is_digit whole ≡ true
  pub each_behind : list_all is_digit behind ≡ true
  pub some : whole ++ behind ≢ []
  pub written : (text ≡ whole ++ 46 ∷ behind) ⊎ ((text ≡ whole) × (behind ≡ []))

-- such a number, the only word of the text: white space may stand around it
abbrev pub HasDecimal : (text whole behind : List ℕ) → Type 0
HasDecimal text whole behind = (number : List ℕ) × AreWords (number ∷ []) text × IsDecimal number whole behind

-- a weight is such a number
abbrev pub IsWeight : List ℕ → Type 0
IsWeight text = (whole behind : List ℕ) × HasDecimal text whole behind

-- the number is at most 1
abbrev pub IsAtMostOne : List ℕ → List ℕ → Type 0
IsAtMostOne whole behind = (number_of whole ≡ 0) ⊎ ((number_of whole ≡ 1) × (number_of behind ≡ 0))

-- a probability is such a number of at most 1
abbrev pub IsProbability : List ℕ → Type 0
IsProbability text = (whole behind : List ℕ) × HasDecimal text whole behind × IsAtMostOne whole behind

-- a repeat may stand without one
abbrev pub IsChance : Option (List ℕ) → Type 0
IsChance None = Unit {0}
IsChance (Some inside) = IsProbability inside
