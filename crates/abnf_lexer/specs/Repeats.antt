-- The form of a repeat (SRGS 1.0 section 2.5): an Angle without a media type, whose inside is `n`, `n-m` or `n-` and a
-- probability between slashes or nothing, with white space around each part or none.
use Rattle.std.specs.Prelude.{◌≡◌, ◌≢◌, ℕ, Bool, true, List, [], ◌∷◌, ◌++◌, Option, Some, None, codes}
use Rattle.std.specs.List.{list_all}
use Rattle.std.specs.Option.{option_copied}
use Rattle.vg_base.specs.Characters.{is_space, lies_in}
use Rattle.vg_base.specs.Runs.{IsEnclosed, ReachesFirst}
use Rattle.abnf_lexer.specs.declared.repeats.Most as repeats
use Rattle.abnf_lexer.specs.declared.repeats.Most.TheVariants as lent
use Rattle.abnf_lexer.specs.declared.repeats.Repeat as lent_repeat

abbrev pub is_digit : ℕ → Bool
is_digit = lies_in ((0x30, 0x39) ∷ [])

-- at most how often: as often as at least, without end, or up to a number
pub data Most : Type 0 where
  Same : Most
  Endless : Most
  UpTo : List ℕ → Most

abbrev pub IsBlank : List ℕ → Type 0
IsBlank text = list_all is_space text ≡ true

pub record IsNumber (text : List ℕ) : Type 0 where
  pub each : list_all is_digit text ≡ true
  pub some : text ≢ []

-- `-` and a number, with the white space behind each part
pub record IsUpTo (number text : List ℕ) : Type 0 where
  pub before : List ℕ
  pub after : List ℕ
  pub whole : text ≡ 45 ∷ (before ++ (number ++ after))
  pub is_number : IsNumber number
  pub blank_before : IsBlank before
  pub blank_after : IsBlank after

pub record IsEndless (text : List ℕ) : Type 0 where
  pub after : List ℕ
  pub whole : text ≡ 45 ∷ after
  pub blank_after : IsBlank after

-- nothing, `-`, or `-` and a number
abbrev pub IsRange : Most → List ℕ → Type 0
IsRange Same text = text ≡ []
IsRange Endless text = IsEndless text
IsRange (UpTo number) text = IsUpTo number text

-- characters between slashes, with the white space behind them
pub record IsBetweenSlashes (inside text : List ℕ) : Type 0 where
  pub after : List ℕ
  pub whole : text ≡ 47 ∷ (inside ++ 47 ∷ after)
  pub first : ReachesFirst (codes "/") inside
  pub blank_after : IsBlank after

-- nothing, or characters between slashes
abbrev pub IsChance : Option (List ℕ) → List ℕ → Type 0
IsChance None text = text ≡ []
IsChance (Some inside) text = IsBetweenSlashes inside text

-- the slice of an Angle is a repeat of these numbers and this probability, as they are written
pub record IsRepeat (slice least : List ℕ) (most : Most) (chance : Option (List ℕ)) : Type 0 where
  pub no_media : IsEnclosed (codes "<") (codes ">") slice
  pub before : List ℕ
  pub after : List ℕ
  pub range : List ℕ
  pub probability : List ℕ
  pub whole : slice ≡ 60 ∷ (before ++ (least ++ (after ++ (range ++ (probability ++ 62 ∷ [])))))
  pub blank_before : IsBlank before
  pub is_number : IsNumber least
  pub blank_after : IsBlank after
  pub is_range : IsRange most range
  pub is_chance : IsChance chance probability

-- no numbers and no probability make the slice a repeat
abbrev pub IsNoRepeat : (slice : List ℕ) → Type 0
IsNoRepeat slice = (least : List ℕ) (most : Most) (chance : Option (List ℕ)) → IsRepeat slice least most chance → ⊥

-- ---- as the code lends them

-- the numbers of a repeat and its probability
pub record Numbers : Type 0 where
  pub least : List ℕ
  pub most : Most
  pub chance : Option (List ℕ)

abbrev pub most_of : repeats.Most → Most
most_of lent.Same = Same
most_of lent.Endless = Endless
most_of (lent.UpTo number) = UpTo number.now

abbrev pub shown : lent_repeat.Repeat → Numbers
shown r = record { least = r.least.now; most = most_of r.most; chance = option_copied r.chance }
