-- A text cut at a character.
use Rattle.std.specs.Prelude.{ℕ, Bool, ◌==◌, if◌then◌else◌, List, [], ◌∷◌, Option, None, Some}
use Rattle.std.specs.List.{list_any}

-- the character stands in the text
abbrev pub has : ℕ → List ℕ → Bool
has c text = list_any (λ x. x == c) text

-- the text before the first such character, all of it where there is none
abbrev pub before : ℕ → List ℕ → List ℕ
before c [] = []
before c (x ∷ text) = if x == c then [] else x ∷ before c text

-- the text from the first such character on, nothing where there is none
abbrev pub from : ℕ → List ℕ → List ℕ
from c [] = []
from c (x ∷ text) = if x == c then x ∷ text else from c text

-- the text after the first such character, if there is one
abbrev pub after : ℕ → List ℕ → Option (List ℕ)
after c [] = None
after c (x ∷ text) = if x == c then Some text else after c text

-- the text before the last such character, nothing where there is none
abbrev pub before_last : ℕ → List ℕ → List ℕ
before_last c [] = []
before_last c (x ∷ text) = if has c text then x ∷ before_last c text else []

-- the text up to and with the last such character, nothing where there is none
abbrev pub up_to_last : ℕ → List ℕ → List ℕ
up_to_last c [] = []
up_to_last c (x ∷ text) = if has c (x ∷ text) then x ∷ up_to_last c text else []

-- the characters that part a reference
abbrev pub colon : ℕ
colon = 58

abbrev pub slash : ℕ
slash = 47

abbrev pub question : ℕ
question = 63

abbrev pub hash : ℕ
hash = 35
