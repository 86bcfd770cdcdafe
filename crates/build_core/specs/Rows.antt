-- The import rows, and what is reached by them.
use Rattle.std.specs.Prelude.{ℕ, ◌<◌, ◌≤◌, List, [], length, slice_index_or}
use Rattle.std.specs.List.{Contains}
use Rattle.vg_base.specs.declared.numbers.DocIx.{DocIx}

abbrev pub ix : ℕ → DocIx
ix x = record { 0 = x }

-- the row of x; past the end it is empty
abbrev pub row : List (List DocIx) → ℕ → List DocIx
row rows x = slice_index_or rows x []

-- x imports y
abbrev pub ByRows : List (List DocIx) → ℕ → ℕ → Type 0
ByRows rows x y = Contains (row rows x) (ix y)

-- at most 64 rows, and each names documents that have a row
pub record IsClosed (rows : List (List DocIx)) : Type 0 where
  pub few : length rows ≤ 64
  pub inside : (x y : ℕ) → ByRows rows x y → y < length rows

-- the last of a walk that starts at an entry and goes by the rows
pub data Reached (imp : ℕ → ℕ → Type 0) (entries : List DocIx) : ℕ → Type 0 where
  entry : {x : ℕ} → Contains entries (ix x) → Reached imp entries x
  import : {x y : ℕ} → Reached imp entries x → imp x y → Reached imp entries y
