-- Where a character stands after a front of a text: line and column, both from 1, the column in characters.
-- A line ends at CR LF, at LF, or at CR alone. A byte order mark at the start of the text has no column.
use Rattle.std.specs.Prelude.{ℕ, ◌+◌, Bool, ◌&&◌, ◌||◌, not, ◌==◌, List, [], ◌∷◌, if◌then◌else◌, count_by, length, slice_index, ◌-◌}
use Rattle.std.specs.List.{suffix_len, zip}
use Rattle.std.specs.Ordering.{nat_cmp, on, then_cmp}
use Rattle.std.specs.declared.cmp.Ordering.{Ordering}
use Rattle.vg_base.specs.declared.place.Place.{Place}

-- a carriage return ends a line, and so does a line feed that follows none
abbrev pub ends_line : ℕ → ℕ → Bool
ends_line before c = c == 13 || (c == 10 && not (before == 13))

-- neither a carriage return nor a line feed
abbrev pub is_within_line : ℕ → Bool
is_within_line c = not (c == 13 || c == 10)

-- the text without the byte order mark at its start
abbrev pub without_mark : List ℕ → List ℕ
without_mark [] = []
without_mark (c ∷ cs) = if c == 0xFEFF then cs else c ∷ cs

-- how many lines end in the front, each character being looked at beside the one before it
abbrev pub line_ends : List ℕ → ℕ
line_ends front = count_by (λ pair. ends_line pair.0 pair.1) (zip (0 ∷ front) front)

-- the place after a front: past its line ends, and past the characters since the last one
abbrev pub place_after : List ℕ → Place
place_after front = record { line = 1 + line_ends front; column = 1 + suffix_len is_within_line (without_mark front) }

-- the last character of a front, or 0
abbrev pub last_of : List ℕ → ℕ
last_of front = slice_index front (length front - 1)

-- a character takes a column unless it ends a line, or is the byte order mark at the start
abbrev pub takes_column : List ℕ → ℕ → Bool
takes_column front c = is_within_line c && not (c == 0xFEFF && length front == 0)

-- each character moves the place on, but the line feed of CR LF and the byte order mark
abbrev pub moves_on : List ℕ → ℕ → Bool
moves_on front c = ends_line (last_of front) c || takes_column front c

-- a text that is walked over: the characters that were passed, and the rest
pub record Walked : Type 0 where
  pub passed : List ℕ
  pub rest : List ℕ

-- the order of places: by line, then by column
abbrev pub place_order : Place → Place → Ordering
place_order = then_cmp (on (λ p. p.line) nat_cmp) (on (λ p. p.column) nat_cmp)
