-- The numbers of a repeat as the code keeps them.
use Rattle.std.specs.Prelude.{◌≡◌, ℕ, true, List, Option}
use Rattle.std.specs.List.{list_all}
use Rattle.abnf_lexer.specs.declared.lexemes.Spanned.{Spanned}
use Rattle.abnf_lexer.specs.Repeats.{is_digit, Most, Same, Endless, UpTo}
use Rattle.rule_reader.specs.declared.leaves.times.Turns.{Turns}
use Rattle.rule_reader.specs.Numbers.{number_of, most_of}
use Rattle.rule_reader.specs.LeafFaults.{HasRepeat}

abbrev pub AreDigits : Most → Type 0
AreDigits (UpTo digits) = list_all is_digit digits ≡ true
AreDigits most = Unit {0}

pub record TurnsOf (least : List ℕ) (most : Most) (turns : Turns) : Type 0 where
  pub least_is : turns.least ≡ number_of least
  pub most_is : turns.most ≡ most_of least most

-- they are those of the repeat there
abbrev pub TurnsAre : List ℕ → Spanned → Turns → Type 0
TurnsAre text span turns = (least : List ℕ) × (most : Most) × (chance : Option (List ℕ)) × HasRepeat text span least most chance × TurnsOf least most turns
