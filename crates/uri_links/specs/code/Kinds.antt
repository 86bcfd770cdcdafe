-- The segments of a path as the code tells them apart, each with the slash before it if it has one, and what it goes on with.
use Rattle.std.specs.Prelude.{◌≡◌, ◌≢◌, ◌⊎◌, ◌==◌, if◌then◌else◌, ℕ, List, [], ◌∷◌, codes}
use Rattle.uri_links.specs.Split.{slash}
use Rattle.uri_links.specs.declared.dots.Kind.{Kind}
use Rattle.uri_links.specs.declared.dots.Kind.TheVariants.{Bare, Here, Up, Plain}

-- not made of dots alone
pub record IsPlain (segment : List ℕ) : Type 0 where
  pub one : segment ≢ codes "."
  pub two : segment ≢ codes ".."
  pub slash_one : segment ≢ codes "/."
  pub slash_two : segment ≢ codes "/.."

abbrev pub IsKind : Kind → List ℕ → Type 0
IsKind Bare segment = (segment ≡ codes ".") ⊎ (segment ≡ codes "..")
IsKind Here segment = segment ≡ codes "/."
IsKind Up segment = segment ≡ codes "/.."
IsKind Plain segment = IsPlain segment

-- a slash, where nothing is left
abbrev pub or_slash : List ℕ → List ℕ
or_slash [] = codes "/"
or_slash (c ∷ path) = c ∷ path

-- what comes after a slash, where the path begins with one
abbrev pub behind_slash : List ℕ → List ℕ
behind_slash [] = []
behind_slash (c ∷ path) = if c == slash then path else c ∷ path
