-- How far a search for components has come.
--
-- A vertex is unmet, open or closed. The open ones stand on the path, in the order in which they were met. The path is
-- cut into groups: one begins at each group's first place, and ends where the next one begins. What is on the path
-- reaches all that comes later, and all of its own group (`forward`). An edge of an open vertex is left to be followed,
-- or leads to a closed vertex, or to an open one that is in no sooner group (`followed`). So a group at the end of the
-- path of which no edge is left is a component. The edges that are left stand in the order of the vertices that they
-- come from, and each group says how many were there before it (`left`).
use Rattle.std.specs.Prelude.{◌≡◌, ◌⊎◌, ◌↔◌, ℕ, ◌+◌, ◌<◌, ◌≤◌, Bool, true, Some, List, [], ◌∷◌, length, slice_get}
use Rattle.graph_cycles.specs.declared.search.Search.{Search}
use Rattle.graph_cycles.specs.declared.search.Group.{Group}
use Rattle.graph_cycles.specs.declared.search.Edge.{Edge}
use Rattle.graph_cycles.specs.declared.search.Place.{Place}
use Rattle.graph_cycles.specs.declared.search.Place.TheVariants.{Unmet, Open, Closed}
use Rattle.graph_cycles.specs.Graphs.{Rows, LeadsTo, IsOnCycle, IsWithin}
use Rattle.graph_cycles.specs.code.Reaches.{Reaches}

abbrev pub IsMarked : Search → ℕ → Type 0
IsMarked s x = slice_get s.marks.items x ≡ Some true

abbrev pub IsClosed : Search → ℕ → Type 0
IsClosed s x = slice_get s.places.items x ≡ Some Closed

abbrev pub IsUnmet : Search → ℕ → Type 0
IsUnmet s x = slice_get s.places.items x ≡ Some Unmet

-- x stands at place k of the path
abbrev pub Stands : Search → ℕ → ℕ → Type 0
Stands s k x = slice_get s.path.items k ≡ Some x

-- the i-th group
abbrev pub IsGroup : Search → ℕ → Group → Type 0
IsGroup s i g = slice_get s.groups.items i ≡ Some g

-- place m of the path is in no sooner group than place k
pub record NoSooner (s : Search) (k m : ℕ) : Type 0 where
  pub each : (i : ℕ) (g : Group) → IsGroup s i g → g.first ≤ k → g.first ≤ m

abbrev pub edge : ℕ → ℕ → Edge
edge x y = record { from = x; to = y }

-- the edge from x to y is left to be followed
abbrev pub IsLeft : Search → ℕ → ℕ → Type 0
IsLeft s x y = (j : ℕ) × (slice_get s.left.items j ≡ Some (edge x y))

-- what an edge leads to that was followed from place k
abbrev pub IsSettled : Search → ℕ → ℕ → Type 0
IsSettled s k y = IsClosed s y ⊎ ((m : ℕ) × Stands s m y × NoSooner s k m)

-- the path and its groups
pub record IsPath (rows : Rows) (s : Search) : Type 0 where
  pub placed : (k x : ℕ) → Stands s k x ↔ (slice_get s.places.items x ≡ Some (Open k))
  pub forward : (k m x y : ℕ) → Stands s k x → Stands s m y → NoSooner s k m → Reaches rows x y
  pub covered : (k x : ℕ) → Stands s k x → (i : ℕ) × (g : Group) × IsGroup s i g × (g.first ≤ k)

-- groups rise, in places and in edges, up to the ends of both lists
pub record AreGroups (s : Search) : Type 0 where
  pub rising : (i j : ℕ) (a b : Group) → IsGroup s i a → IsGroup s j b → i ≤ j → (a.first ≤ b.first) × (a.edges ≤ b.edges)
  pub bounded : (i : ℕ) (g : Group) → IsGroup s i g → (g.first ≤ length s.path.items) × (g.edges ≤ length s.left.items)

-- edge number j, which is left, comes from a vertex of the path, and is behind those groups that do not begin after it
pub record IsEdge (rows : Rows) (s : Search) (j : ℕ) (e : Edge) : Type 0 where
  pub leads : LeadsTo rows e.from e.to
  pub place : ℕ
  pub stands : Stands s place e.from
  pub behind : (i : ℕ) (g : Group) → IsGroup s i g → (g.first ≤ place) ↔ (g.edges ≤ j)

-- each edge of a vertex on the path is left, or settled, or leads to one of those that are put off
abbrev pub AreFollowed : Rows → Search → (ℕ → Type 0) → Type 0
AreFollowed rows s IsPutOff = (k x y : ℕ) → Stands s k x → LeadsTo rows x y → IsLeft s x y ⊎ (IsSettled s k y ⊎ IsPutOff y)

-- closed vertices lead to closed ones alone, and their marks are right; others are marked where they lead to themselves
pub record AreMarks (rows : Rows) (s : Search) : Type 0 where
  pub closed : (x y : ℕ) → IsClosed s x → LeadsTo rows x y → IsClosed s y
  pub right : (x : ℕ) → IsClosed s x → IsMarked s x ↔ IsOnCycle rows x
  pub loops : (x : ℕ) → (IsClosed s x → ⊥) → IsMarked s x ↔ LeadsTo rows x x

-- these first vertices are marked where they lead to themselves
pub record AreLoops (rows : Rows) (marks : List Bool) : Type 0 where
  pub each : (x : ℕ) → x < length marks → (slice_get marks x ≡ Some true) ↔ LeadsTo rows x x

pub record IsSound (rows : Rows) (s : Search) : Type 0 where
  pub within : IsWithin rows
  pub sized : length s.places.items ≡ length rows
  pub marked : length s.marks.items ≡ length rows
  pub path : IsPath rows s
  pub groups : AreGroups s
  pub left : (j : ℕ) (e : Edge) → slice_get s.left.items j ≡ Some e → IsEdge rows s j e
  pub marks : AreMarks rows s

-- between two steps
pub record IsSearch (rows : Rows) (s : Search) : Type 0 where
  pub sound : IsSound rows s
  pub followed : AreFollowed rows s (λ y. ⊥)

-- an edge to this vertex is to be followed; all that is open reaches it
pub record IsFollowing (rows : Rows) (s : Search) (to : ℕ) : Type 0 where
  pub sound : IsSound rows s
  pub followed : AreFollowed rows s (λ y. y ≡ to)
  pub reached : (k x : ℕ) → Stands s k x → Reaches rows x to
  pub inside : to < length rows

-- how many edges the vertices have that were not met, and how many these are
abbrev pub unmet : Rows → List Place → ℕ
unmet [] ps = 0
unmet (row ∷ rows) [] = 0
unmet (row ∷ rows) (Unmet ∷ ps) = length row + 1 + unmet rows ps
unmet (row ∷ rows) (Open k ∷ ps) = unmet rows ps
unmet (row ∷ rows) (Closed ∷ ps) = unmet rows ps

-- what is left to do
abbrev pub work : Rows → Search → ℕ
work rows s = length s.groups.items + length s.left.items + unmet rows s.places.items
