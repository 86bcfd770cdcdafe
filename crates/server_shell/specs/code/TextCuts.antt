-- Texts that are cut at a character.
use Rattle.std.specs.Prelude.{◌≡◌, ℕ, ◌==◌, false, List, ◌∷◌, ◌++◌}
use Rattle.std.specs.List.{All}

-- c doesn't stand in the text
abbrev pub IsWithout : ℕ → List ℕ → Type 0
IsWithout c text = All (λ x. (x == c) ≡ false) text

-- what stands before the first c of the text, and behind it
pub record CutAtFirst (c : ℕ) (text before behind : List ℕ) : Type 0 where
  pub none : IsWithout c before
  pub cut : text ≡ before ++ c ∷ behind
