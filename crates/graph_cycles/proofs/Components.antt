-- The last group of the path, where none of its edges is left, is a component: each of its edges leads to a vertex of it or
-- to a closed one (`out`), so a walk that comes back never leaves it. Its vertices reach each other, so where they are
-- several each is on a cycle (`several_on_cycle`), and where it is one this one is on a cycle only where it leads to
-- itself (`single_loop`).
use Rattle.std.proofs.Common.{arith, ◌≡◌, ◌≢◌, ◌⊎◌, inl, inr, ⊎_elim, refl, sym, ap, subst, ◌∙◌, ℕ, ◌+◌, ◌-◌, ◌<◌, ◌≤◌, Option, Some, None, List, [], ◌∷◌, length, drop, length-drop}
use Rattle.std.specs.Prelude.{slice_get}
use Rattle.std.proofs.lemmas.Bool.{cases_eq, cases_lt}
use Rattle.std.proofs.lemmas.Option.{slice_get_within, same_Some}
use Rattle.graph_cycles.specs.declared.search.Search.{Search}
use Rattle.graph_cycles.specs.declared.search.Group.{Group}
use Rattle.graph_cycles.specs.declared.search.Edge.{Edge}
use Rattle.graph_cycles.specs.declared.search.Place.{Place}
use Rattle.graph_cycles.specs.declared.search.Place.TheVariants.{Unmet, Open, Closed}
use Rattle.graph_cycles.specs.Graphs.{Rows, LeadsTo, IsOnCycle}
use Rattle.graph_cycles.specs.code.Reaches.{Reaches}
use Rattle.graph_cycles.specs.code.Searches.{Stands, IsClosed, IsGroup, IsEdge, IsSearch, edge}
use Rattle.graph_cycles.proofs.Lists.{drop_at, some_at}
use Rattle.graph_cycles.proofs.Cycles.{round_trip, stays_in}

-- this group is the last one, and none of its edges is left
pub record IsComponent (rows : Rows) (last : Group) (s : Search) : Type 0 where
  pub search : IsSearch rows s
  pub is_last : IsGroup s (length s.groups.items - 1) last
  pub none_left : length s.left.items ≤ last.edges

-- y stands in the group that begins at this place
pub record IsMember (first : ℕ) (s : Search) (y : ℕ) : Type 0 where
  pub place : ℕ
  pub stands : Stands s place y
  pub late : first ≤ place

-- where y stands on the path, it stands before that place
pub record IsOutside (first : ℕ) (s : Search) (y : ℕ) : Type 0 where
  pub early : (k : ℕ) → Stands s k y → k < first

-- the vertices from this place of the path on
abbrev pub members : ℕ → Search → List ℕ
members first s = drop first s.path.items

module _ (rows : Rows) (last : Group) (s : Search) (c : IsComponent rows last s) where
  -- a vertex stands once on the path
  pub one_place : (k m y : ℕ) → Stands s k y → Stands s m y → k ≡ m
  one_place k m y a b =
      let e : Some (Open k) ≡ Some (Open m) = sym ((c.search.sound.path.placed k y).0 a) ∙ (c.search.sound.path.placed m y).0 b in cc

  not_standing : (y k : ℕ) (p : Option Place) → slice_get s.places.items y ≡ p → (p ≡ Some (Open k) → ⊥) → Stands s k y → ⊥
  not_standing y k p at ne stands = ne (sym at ∙ (c.search.sound.path.placed k y).0 stands)

  member_by : (y : ℕ) (p : Option Place) → slice_get s.places.items y ≡ p → IsMember last.first s y ⊎ IsOutside last.first s y
  member_by y None at = inr (record { early = λ k stands. absurd (not_standing y k None at (λ e. cc) stands) })
  member_by y (Some Unmet) at = inr (record { early = λ k stands. absurd (not_standing y k (Some Unmet) at (λ e. cc) stands) })
  member_by y (Some Closed) at = inr (record { early = λ k stands. absurd (not_standing y k (Some Closed) at (λ e. cc) stands) })
  member_by y (Some (Open m)) at =
      let here = (c.search.sound.path.placed m y).1 at in
      ⊎_elim (λ lt. inr (record { early = λ k stands. subst (λ n. n < last.first) (one_place m k y here stands) lt }))
      (λ le. inl (record { place = m; stands = here; late = le })) (cases_lt m last.first)

  -- each vertex is of the component or not
  pub member_cases : (y : ℕ) → IsMember last.first s y ⊎ IsOutside last.first s y
  member_cases y = member_by y (slice_get s.places.items y) refl

  -- it is open
  pub not_closed : (y : ℕ) → IsMember last.first s y → IsClosed s y → ⊥
  not_closed y m closed = not_standing y m.place (Some Closed) closed (λ e. cc) m.stands

  -- a vertex of the component is one of the graph
  pub within : (y : ℕ) → IsMember last.first s y → y < length rows
  within y m =
      let size = slice_get_within s.places.items y (Open m.place) ((c.search.sound.path.placed m.place y).0 m.stands) in
      omega (arith, size, c.search.sound.sized)

  -- ---- its place in the list

  -- a vertex of it stands among its members
  pub in_component : (y : ℕ) (m : IsMember last.first s y) → slice_get (members last.first s) (m.place - last.first) ≡ Some y
  in_component y m =
      let e : last.first + (m.place - last.first) ≡ m.place = omega (arith, m.late) in
      drop_at last.first s.path.items (m.place - last.first) ∙ ap (slice_get s.path.items) e ∙ m.stands

  -- no other one does
  pub not_in : (y : ℕ) → IsOutside last.first s y → (i : ℕ) → slice_get (members last.first s) i ≢ Some y
  not_in y o i at = let lt = o.early (last.first + i) (sym (drop_at last.first s.path.items i) ∙ at) in omega (arith, lt)

  -- ---- edges

  -- no group begins later
  pub below_last : (i : ℕ) (g : Group) → IsGroup s i g → (g.first ≤ last.first) × (g.edges ≤ last.edges)
  below_last i g at =
      let lt = slice_get_within s.groups.items i g at in
      c.search.sound.groups.rising i (length s.groups.items - 1) g last at c.is_last (omega (arith, lt))

  -- an edge that is left comes from before the component
  pub before : (j : ℕ) (e : Edge) (at : IsEdge rows s j e) → j < length s.left.items → at.place < last.first
  before j e at lt = ⊎_elim (λ less. less)
      (λ late. let le = (at.behind (length s.groups.items - 1) last c.is_last).0 late in absurd (omega (arith, le, lt, c.none_left)))
      (cases_lt at.place last.first)

  -- from the component edges lead into it, or to closed vertices
  pub out : (y z : ℕ) → IsMember last.first s y → LeadsTo rows y z → IsMember last.first s z ⊎ IsClosed s z
  out y z m e = ⊎_elim
      (λ l.
      let old = c.search.sound.left l.0 (edge y z) l.1 in
      let lt = before l.0 (edge y z) old (slice_get_within s.left.items l.0 (edge y z) l.1) in
      absurd (omega (arith, lt, m.late, one_place old.place m.place y old.stands m.stands)))
      (λ r. ⊎_elim
      (λ settled. ⊎_elim (λ closed. inr closed)
      (λ n. inl (record { place = n.0; stands = n.1; late = n.2.each (length s.groups.items - 1) last c.is_last m.late })) settled)
      (λ none. absurd none) r)
      (c.search.followed m.place y z m.stands e)

  -- ---- cycles

  reaches : (y z : ℕ) → IsMember last.first s y → IsMember last.first s z → Reaches rows y z
  reaches y z m n =
      c.search.sound.path.forward m.place n.place y z m.stands n.stands
      (record { each = λ i g at le. let low = below_last i g at in omega (arith, low.0, n.late) })

  size : length (members last.first s) ≡ length s.path.items - last.first
  size = length-drop last.first s.path.items

  other_member : (y : ℕ) → IsMember last.first s y → 1 < length (members last.first s) → (z : ℕ) × IsMember last.first s z × (y ≢ z)
  other_member y m several = ⊎_elim
      (λ same. member_at (last.first + 1) (omega (arith, size, several)) (omega arith) (λ e. omega (arith, e, same)))
      (λ ne. member_at last.first (omega (arith, size, several)) (omega arith) ne)
      (cases_eq m.place last.first)
    where
      member_at : (k : ℕ) → k < length s.path.items → last.first ≤ k → m.place ≢ k → (z : ℕ) × IsMember last.first s z × (y ≢ z)
      member_at k lt le ne =
          let z = some_at s.path.items k lt in
          (z.0, record { place = k; stands = z.1; late = le }, λ same. ne (one_place m.place k y m.stands (subst (λ x. Stands s k x) (sym same) z.1)))

  -- where they are several each is on a cycle
  pub several_on_cycle : (y : ℕ) → IsMember last.first s y → 1 < length (members last.first s) → IsOnCycle rows y
  several_on_cycle y m several = let z = other_member y m several in round_trip rows (reaches y z.0 m z.1) z.2 (reaches z.0 y z.1 m)

  -- a walk from a single vertex back to it is an edge
  pub single_loop : (y : ℕ) → IsMember last.first s y → length (members last.first s) ≤ 1 → IsOnCycle rows y → LeadsTo rows y y
  single_loop y m single ([], e) = e
  single_loop y m single (z ∷ ms, w) = ⊎_elim
      (λ n.
      let a = slice_get_within s.path.items m.place y m.stands in
      let b = slice_get_within s.path.items n.place z n.stands in
      let e : n.place ≡ m.place = omega (arith, a, b, m.late, n.late, size, single) in
      let same : z ≡ y = same_Some z y (sym n.stands ∙ ap (slice_get s.path.items) e ∙ m.stands) in
      subst (λ x. LeadsTo rows y x) same w.0)
      (λ closed. absurd (not_closed y m (stays_in rows (IsClosed s) c.search.sound.marks.closed ms z y closed w.1)))
      (out y z m w.0)
