-- Directed graphs and their cycles (a closed walk of at least one edge).
use Rattle.std.specs.Prelude.{ℕ, ◌<◌, ◌≤◌, ◌^◌, length, List, [], ◌∷◌, slice_index_or, Contains}

-- a directed graph: the row of a vertex has the vertices that it leads to
abbrev pub Rows : Type 0
Rows = List (List ℕ)

-- y stands in the row of x; past the last vertex a row is empty
abbrev pub LeadsTo : Rows → ℕ → ℕ → Type 0
LeadsTo rows x y = Contains (slice_index_or rows x []) y

-- from x by edges through each vertex of the list, in its order, to y
abbrev pub LeadsThrough : Rows → ℕ → List ℕ → ℕ → Type 0
LeadsThrough rows x [] y = LeadsTo rows x y
LeadsThrough rows x (m ∷ ms) y = LeadsTo rows x m × LeadsThrough rows m ms y

-- from x back to x
abbrev pub IsOnCycle : Rows → ℕ → Type 0
IsOnCycle rows x = (through : List ℕ) × LeadsThrough rows x through x

-- at most 2^32 vertices, and each edge leads to one of them
pub record IsWithin (rows : Rows) : Type 0 where
  pub few : length rows ≤ 2 ^ 32
  pub inside : (x y : ℕ) → LeadsTo rows x y → y < length rows
