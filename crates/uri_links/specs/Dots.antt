-- Dot segments are taken out of a path (RFC 3986 section 5.2.4).
use Rattle.std.specs.Prelude.{ℕ, zero, suc, Bool, ◌||◌, nat_eq, if◌then◌else◌, List, [], ◌∷◌, ◌++◌, length, drop, codes}
use Rattle.std.specs.List.{starts_with}
use Rattle.std.specs.Str.{bytes_eq}
use Rattle.uri_links.specs.Split.{before, from, before_last, slash}

-- the input buffer and the output buffer
pub record Buffers : Type 0 where
  pub input : List ℕ
  pub output : List ℕ

-- the first segment of a path, with the slash that it begins with if it does, up to the next slash
abbrev pub first_segment : List ℕ → List ℕ
first_segment [] = []
first_segment (c ∷ path) = c ∷ before slash path

abbrev pub after_segment : List ℕ → List ℕ
after_segment [] = []
after_segment (c ∷ path) = from slash path

-- one step, by what the input begins with or is
unfoldable pub step : Buffers → Buffers
step b =
    -- A
    if begins (codes "../") then record { input = drop 3 b.input; output = b.output } else
    if begins (codes "./") then record { input = drop 2 b.input; output = b.output } else
    -- B
    if begins (codes "/./") then record { input = drop 2 b.input; output = b.output } else
    if is (codes "/.") then record { input = codes "/"; output = b.output } else
    -- C
    if begins (codes "/../") then record { input = drop 3 b.input; output = before_last slash b.output } else
    if is (codes "/..") then record { input = codes "/"; output = before_last slash b.output } else
    -- D
    if is (codes ".") || is (codes "..") then record { input = []; output = b.output } else
    -- E
    record { input = after_segment b.input; output = b.output ++ first_segment b.input }
  where
    begins : List ℕ → Bool
    begins front = starts_with nat_eq b.input front

    is : List ℕ → Bool
    is whole = bytes_eq b.input whole

-- so many steps, or fewer where the input is empty before
unfoldable pub steps : ℕ → Buffers → Buffers
steps zero b = b
steps (suc n) b = if bytes_eq b.input [] then b else steps n (step b)

-- The output when the input is empty. Each step shortens the input, so there are no more steps than it has characters.
unfoldable pub remove_dot_segments : List ℕ → List ℕ
remove_dot_segments path = (steps (length path) (record { input = path; output = [] })).output
