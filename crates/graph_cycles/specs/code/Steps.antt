-- What the steps of a search change.
use Rattle.std.specs.Prelude.{◌≡◌, ℕ, ◌≤◌, ◌<◌, true, [], ◌∷◌, ◌++◌, ◌-◌, drop, length, map, slice_index_or, slice_set, take}
use Rattle.graph_cycles.specs.declared.search.Search.{Search}
use Rattle.graph_cycles.specs.declared.search.Group.{Group}
use Rattle.graph_cycles.specs.declared.search.Edge.{Edge}
use Rattle.graph_cycles.specs.declared.search.Place.TheVariants.{Open, Closed}
use Rattle.graph_cycles.specs.Graphs.{Rows}
use Rattle.graph_cycles.specs.code.Sets.{set_all}
use Rattle.graph_cycles.specs.code.Searches.{IsGroup, IsSearch, IsUnmet, edge}

-- this edge, the last one that is left, is taken off
pub record TakenOff (e : Edge) (s t : Search) : Type 0 where
  pub places : t.places.items ≡ s.places.items
  pub path : t.path.items ≡ s.path.items
  pub groups : t.groups.items ≡ s.groups.items
  pub left : s.left.items ≡ t.left.items ++ e ∷ []
  pub marks : t.marks.items ≡ s.marks.items

-- a group that begins behind all that is there
abbrev pub newest : Search → Group
newest s = record { first = length s.path.items; edges = length s.left.items }

-- x is put at the end of the path, as a group of its own, and its edges are left
pub record Entered (rows : Rows) (x : ℕ) (s t : Search) : Type 0 where
  pub places : t.places.items ≡ slice_set s.places.items x (Open (length s.path.items))
  pub path : t.path.items ≡ s.path.items ++ x ∷ []
  pub groups : t.groups.items ≡ s.groups.items ++ newest s ∷ []
  pub left : t.left.items ≡ s.left.items ++ map (edge x) (slice_index_or rows x [])
  pub marks : t.marks.items ≡ s.marks.items

-- none but the last groups were left out, which begin after place p
pub record Joining (p : ℕ) (s t : Search) : Type 0 where
  pub places : t.places.items ≡ s.places.items
  pub path : t.path.items ≡ s.path.items
  pub left : t.left.items ≡ s.left.items
  pub marks : t.marks.items ≡ s.marks.items
  pub kept : (i : ℕ) (g : Group) → IsGroup t i g → IsGroup s i g
  pub stays : (i : ℕ) (g : Group) → IsGroup s i g → g.first ≤ p → IsGroup t i g
  pub fewer : length t.groups.items ≤ length s.groups.items

-- all groups that begin after place p are joined to the last one that does not
pub record Joined (p : ℕ) (s t : Search) : Type 0 where
  pub joining : Joining p s t
  pub low : (i : ℕ) (g : Group) → IsGroup t i g → g.first ≤ p

-- the last group, which begins at this place, is closed as one component
pub record Shut (first : ℕ) (s t : Search) : Type 0 where
  pub places : t.places.items ≡ set_all (drop first s.path.items) Closed s.places.items
  pub path : t.path.items ≡ take first s.path.items
  pub groups : t.groups.items ≡ take (length s.groups.items - 1) s.groups.items
  pub left : t.left.items ≡ s.left.items
  pub several : 1 < length (drop first s.path.items) → t.marks.items ≡ set_all (drop first s.path.items) true s.marks.items
  pub single : length (drop first s.path.items) ≤ 1 → t.marks.items ≡ s.marks.items

-- what was met stays so
pub record KeepsMet (s t : Search) : Type 0 where
  pub met : (x : ℕ) → IsUnmet t x → IsUnmet s x

-- from s on, a search goes on from the root
pub record IsRun (rows : Rows) (root : ℕ) (s t : Search) : Type 0 where
  pub search : IsSearch rows t
  pub keeps : KeepsMet s t
  pub root_met : IsUnmet t root → ⊥

-- no vertex is open, and none of the first ones is unmet
pub record HasRun (rows : Rows) (count : ℕ) (s : Search) : Type 0 where
  pub search : IsSearch rows s
  pub idle : s.groups.items ≡ []
  pub met : (x : ℕ) → x < count → IsUnmet s x → ⊥
