-- The form of a language's code (RFC 3066 section 2.1).
use Rattle.std.specs.Prelude.{◌≡◌, ℕ, ◌≤◌, Bool, true, List, ◌∷◌, ◌++◌, length}
use Rattle.std.specs.List.{list_all, flat_map, AllByRecursion}
use Rattle.abnf_lexer.specs.Classes.{is_letter, is_letter_or_digit}

-- 1 to 8 characters of a class
pub record IsSubtag (is_allowed : ℕ → Bool) (tag : List ℕ) : Type 0 where
  pub each : list_all is_allowed tag ≡ true
  pub some : 1 ≤ length tag
  pub short : length tag ≤ 8

-- letters, then any number of groups of `-` and letters or digits
pub record IsCode (code : List ℕ) : Type 0 where
  pub first : List ℕ
  pub others : List (List ℕ)
  pub whole : code ≡ first ++ flat_map (λ tag. 45 ∷ tag) others
  pub letters : IsSubtag is_letter first
  pub each : AllByRecursion (IsSubtag is_letter_or_digit) others
