-- Runs of a class of characters, and what stands between an opening and a closing; white space and comments, which grammars and scripts share.
-- A form is that of a slice of a text, before this rest of it.
use Rattle.std.specs.Prelude.{◌≡◌, ◌≢◌, ℕ, ◌+◌, Bool, true, false, nat_eq, List, [], ◌∷◌, ◌++◌, length, drop, codes, Option, Some, None, if◌then◌else◌}
use Rattle.std.specs.List.{list_all, starts_with}
use Rattle.vg_base.specs.Characters.{is_space}
use Rattle.vg_base.specs.Places.{is_within_line}

-- ---- forms

-- the text begins with a character of the class
abbrev pub begins : (ℕ → Bool) → List ℕ → Bool
begins p [] = false
begins p (c ∷ cs) = p c

-- a longest run of characters of a class
pub record IsRun (p : ℕ → Bool) (run rest : List ℕ) : Type 0 where
  pub each : list_all p run ≡ true
  pub ends : begins p rest ≡ false

-- characters up to the next closing: it stands behind them, and nowhere before
abbrev pub ReachesFirst : (close inside : List ℕ) → Type 0
ReachesFirst close inside = (before after : List ℕ) → inside ++ close ≡ before ++ (close ++ after) → after ≡ []

-- an opening, characters up to the next closing, and the closing
pub record IsEnclosed (opening close slice : List ℕ) : Type 0 where
  pub inside : List ℕ
  pub whole : slice ≡ opening ++ (inside ++ close)
  pub first : ReachesFirst close inside

-- a longest run of white space
pub record IsWhiteSpace (slice rest : List ℕ) : Type 0 where
  pub run : IsRun is_space slice rest
  pub some : slice ≢ []

-- `//`, to the end of the line
pub record IsLineComment (slice rest : List ℕ) : Type 0 where
  pub inside : List ℕ
  pub whole : slice ≡ codes "//" ++ inside
  pub run : IsRun is_within_line inside rest

-- `/*`, up to the next `*/`
abbrev pub IsBlockComment : (slice : List ℕ) → Type 0
IsBlockComment = IsEnclosed (codes "/*") (codes "*/")

-- ---- searches

abbrev pub further : ℕ → Option ℕ → Option ℕ
further n None = None
further n (Some m) = Some (n + m)

-- how many characters there are to the end of the next closing
unfoldable pub closing_end : (close text : List ℕ) → Option ℕ
closing_end close [] = None
closing_end close (c ∷ cs) = if starts_with nat_eq (c ∷ cs) close then Some (length close) else further 1 (closing_end close cs)

-- how many there are of an opening of this length and of all to the end of the next closing
abbrev pub enclosed_len : (opening : ℕ) → (close text : List ℕ) → Option ℕ
enclosed_len opening close text = further opening (closing_end close (drop opening text))

-- the text is characters up to a closing that stands nowhere before, the closing, so many in all, and a rest
pub record ClosesAt (close text : List ℕ) (n : ℕ) : Type 0 where
  pub inside : List ℕ
  pub rest : List ℕ
  pub parts : text ≡ inside ++ (close ++ rest)
  pub long : length inside + length close ≡ n
  pub first : ReachesFirst close inside

-- no closing stands in the text
abbrev pub ClosesNowhere : (close text : List ℕ) → Type 0
ClosesNowhere close text = (before after : List ℕ) → text ≢ before ++ (close ++ after)
