-- A vertex enters the path, as a group of its own: it is reached by all that is open, and each edge to it is settled.
use Rattle.std.proofs.Common.{arith, ◌≡◌, ◌≢◌, ◌⊎◌, ◌↔◌, inl, inr, ⊎_elim, sym, ap, subst, ◌∙◌, ℕ, ◌+◌, ◌<◌, ◌≤◌, Some, [], ◌∷◌, length, length-append, map}
use Rattle.std.specs.Prelude.{slice_get, slice_index_or}
use Rattle.std.proofs.lemmas.Bool.{cases_eq}
use Rattle.std.proofs.lemmas.List.{length-map}
use Rattle.std.proofs.lemmas.Option.{slice_get_within, same_Some}
use Rattle.graph_cycles.specs.declared.search.Search.{Search}
use Rattle.graph_cycles.specs.declared.search.Group.{Group}
use Rattle.graph_cycles.specs.declared.search.Edge.{Edge}
use Rattle.graph_cycles.specs.declared.search.Place.{Place}
use Rattle.graph_cycles.specs.declared.search.Place.TheVariants.{Unmet, Open, Closed}
use Rattle.graph_cycles.specs.Graphs.{Rows, LeadsTo}
use Rattle.graph_cycles.specs.code.Reaches.{Reaches}
use Rattle.graph_cycles.specs.code.Reaches.Reaches.{here}
use Rattle.graph_cycles.specs.code.Searches.{Stands, IsClosed, IsUnmet, IsGroup, NoSooner, IsLeft, IsSettled, AreGroups, IsEdge, AreFollowed, AreMarks, IsSearch, IsFollowing, edge, work, unmet}
use Rattle.graph_cycles.specs.code.Steps.{Entered, KeepsMet, newest}
use Rattle.graph_cycles.proofs.Lists.{left_old, right_new, append_cases, push_new, push_cases, set_same, set_other, set_length, map_at, map_cases, contains_at, at_contains}
use Rattle.graph_cycles.proofs.Work.{one_met}

-- x was unmet, an edge to it is followed, and it enters
pub record Enters (rows : Rows) (x : ℕ) (s t : Search) : Type 0 where
  pub following : IsFollowing rows s x
  pub is_new : IsUnmet s x
  pub entered : Entered rows x s t

module _ (rows : Rows) (x : ℕ) (s t : Search) (h : Enters rows x s t) where
  -- ---- places

  x_place : slice_get t.places.items x ≡ Some (Open (length s.path.items))
  x_place =
      subst (λ ps. slice_get ps x ≡ Some (Open (length s.path.items))) (sym h.entered.places)
      (set_same s.places.items x (Open (length s.path.items)) (slice_get_within s.places.items x Unmet h.is_new))

  other_place : (y : ℕ) → y ≢ x → slice_get t.places.items y ≡ slice_get s.places.items y
  other_place y ne = ap (λ ps. slice_get ps y) h.entered.places ∙ set_other s.places.items x y (Open (length s.path.items)) ne

  not_new : (y : ℕ) (p : Place) → slice_get s.places.items y ≡ Some p → (p ≡ Unmet → ⊥) → y ≢ x
  not_new y p at ne same = ne (same_Some p Unmet (sym at ∙ ap (slice_get s.places.items) same ∙ h.is_new))

  closed_new : (y : ℕ) → IsClosed s y → IsClosed t y
  closed_new y c = other_place y (not_new y Closed c (λ e. cc)) ∙ c

  closed_old : (y : ℕ) → IsClosed t y → IsClosed s y
  closed_old y c =
      ⊎_elim (λ same. let e : Some Closed ≡ Some (Open (length s.path.items)) = sym c ∙ ap (slice_get t.places.items) same ∙ x_place in absurd (cc))
      (λ ne. sym (other_place y ne) ∙ c) (cases_eq y x)

  unmet_old : (y : ℕ) → IsUnmet t y → IsUnmet s y
  unmet_old y c =
      ⊎_elim (λ same. let e : Some Unmet ≡ Some (Open (length s.path.items)) = sym c ∙ ap (slice_get t.places.items) same ∙ x_place in absurd (cc))
      (λ ne. sym (other_place y ne) ∙ c) (cases_eq y x)

  -- ---- the path and the groups

  x_stands : Stands t (length s.path.items) x
  x_stands = subst (λ p. slice_get p (length s.path.items) ≡ Some x) (sym h.entered.path) (push_new s.path.items x)

  stands_new : (k y : ℕ) → Stands s k y → Stands t k y
  stands_new k y at = subst (λ p. slice_get p k ≡ Some y) (sym h.entered.path) (left_old s.path.items (x ∷ []) k y at)

  stands_cases : (k y : ℕ) → Stands t k y → Stands s k y ⊎ ((k ≡ length s.path.items) × (x ≡ y))
  stands_cases k y at = push_cases s.path.items x k y (subst (λ p. slice_get p k ≡ Some y) h.entered.path at)

  below : (k y : ℕ) → Stands s k y → k < length s.path.items
  below k y at = slice_get_within s.path.items k y at

  group_new : (i : ℕ) (g : Group) → IsGroup s i g → IsGroup t i g
  group_new i g at = subst (λ l. slice_get l i ≡ Some g) (sym h.entered.groups) (left_old s.groups.items (newest s ∷ []) i g at)

  last_group : IsGroup t (length s.groups.items) (newest s)
  last_group = subst (λ l. slice_get l (length s.groups.items) ≡ Some (newest s)) (sym h.entered.groups) (push_new s.groups.items (newest s))

  group_cases : (i : ℕ) (g : Group) → IsGroup t i g → IsGroup s i g ⊎ ((i ≡ length s.groups.items) × (newest s ≡ g))
  group_cases i g at = push_cases s.groups.items (newest s) i g (subst (λ l. slice_get l i ≡ Some g) h.entered.groups at)

  -- what holds of the groups before, and of the new one
  each_group : (P : ℕ → Group → Type 0) → ((i : ℕ) (g : Group) → IsGroup s i g → P i g) → P (length s.groups.items) (newest s)
      → (i : ℕ) (g : Group) → IsGroup t i g → P i g
  each_group P old last i g at = ⊎_elim (λ o. old i g o) (λ e. subst (λ g. P i g) e.1 (subst (λ i. P i (newest s)) (sym e.0) last)) (group_cases i g at)

  none_sooner : (k m : ℕ) → NoSooner s k m → k < length s.path.items → NoSooner t k m
  none_sooner k m none lt = record { each = each_group (λ i g. g.first ≤ k → g.first ≤ m) none.each (λ le. absurd (omega (arith, le, lt))) }

  placed : (k y : ℕ) → Stands t k y ↔ (slice_get t.places.items y ≡ Some (Open k))
  placed k y = (to, from)
    where
      to : Stands t k y → slice_get t.places.items y ≡ Some (Open k)
      to at = ⊎_elim
          (λ o. let p = (h.following.sound.path.placed k y).0 o in other_place y (not_new y (Open k) p (λ e. cc)) ∙ p)
          (λ e. subst (λ z. slice_get t.places.items z ≡ Some (Open k)) e.1 (subst (λ k. slice_get t.places.items x ≡ Some (Open k)) (sym e.0) x_place))
          (stands_cases k y at)

      from : slice_get t.places.items y ≡ Some (Open k) → Stands t k y
      from p = ⊎_elim
          (λ same. let e : Some (Open (length s.path.items)) ≡ Some (Open k) = sym x_place ∙ ap (slice_get t.places.items) (sym same) ∙ p in
          let n : length s.path.items ≡ k = cc in subst (λ k. Stands t k y) n (subst (λ z. Stands t (length s.path.items) z) (sym same) x_stands))
          (λ ne. stands_new k y ((h.following.sound.path.placed k y).1 (sym (other_place y ne) ∙ p)))
          (cases_eq y x)

  forward : (k m y z : ℕ) → Stands t k y → Stands t m z → NoSooner t k m → Reaches rows y z
  forward k m y z a b none =
      ⊎_elim
      (λ ka. ⊎_elim
      (λ mb. h.following.sound.path.forward k m y z ka mb (record { each = λ i g at. none.each i g (group_new i g at) }))
      (λ mb. subst (λ z. Reaches rows y z) mb.1 (h.following.reached k y ka))
      (stands_cases m z b))
      (λ ka. ⊎_elim
      (λ mb. let le = none.each (length s.groups.items) (newest s) last_group (omega (arith, ka.0)) in absurd (omega (arith, le, below m z mb)))
      (λ mb. subst (λ z. Reaches rows y z) (sym ka.1 ∙ mb.1) here)
      (stands_cases m z b))
      (stands_cases k y a)

  covered : (k y : ℕ) → Stands t k y → (i : ℕ) × (g : Group) × IsGroup t i g × (g.first ≤ k)
  covered k y at = ⊎_elim
      (λ o. let c = h.following.sound.path.covered k y o in (c.0, c.1, group_new c.0 c.1 c.2, c.3))
      (λ e. (length s.groups.items, newest s, last_group, omega (arith, e.0)))
      (stands_cases k y at)

  path_length : length t.path.items ≡ length s.path.items + 1
  path_length = omega (arith, ap length h.entered.path, length-append s.path.items (x ∷ []))

  left_length : length t.left.items ≡ length s.left.items + length (slice_index_or rows x [])
  left_length = omega (arith, ap length h.entered.left, length-append s.left.items (map (edge x) (slice_index_or rows x [])), length-map (slice_index_or rows x []) (edge x))

  groups : AreGroups t
  groups = record {
    rising = λ i j a b at bt le. each_group (λ i a. i ≤ j → (a.first ≤ b.first) × (a.edges ≤ b.edges))
        (λ i a old. each_group (λ j b. i ≤ j → (a.first ≤ b.first) × (a.edges ≤ b.edges))
        (λ j b older. h.following.sound.groups.rising i j a b old older)
        (λ le. h.following.sound.groups.bounded i a old) j b bt)
        (each_group (λ j b. length s.groups.items ≤ j → (length s.path.items ≤ b.first) × (length s.left.items ≤ b.edges))
        (λ j b older le. absurd (omega (arith, le, slice_get_within s.groups.items j b older)))
        (λ le. (omega arith, omega arith)) j b bt) i a at le;
    bounded = each_group (λ i g. (g.first ≤ length t.path.items) × (g.edges ≤ length t.left.items))
        (λ i g old. let b = h.following.sound.groups.bounded i g old in (omega (arith, b.0, path_length), omega (arith, b.1, left_length)))
        (omega (arith, path_length), omega (arith, left_length));
  }

  -- ---- the edges that are left

  old_edge : (j : ℕ) (e : Edge) → slice_get s.left.items j ≡ Some e → IsEdge rows t j e
  old_edge j e at =
      let old = h.following.sound.left j e at in
      let lt = below old.place e.from old.stands in
      let few = slice_get_within s.left.items j e at in
      record {
        leads = old.leads;
        place = old.place;
        stands = stands_new old.place e.from old.stands;
        behind = each_group (λ i g. (g.first ≤ old.place) ↔ (g.edges ≤ j)) old.behind ((λ le. absurd (omega (arith, le, lt))), (λ le. absurd (omega (arith, le, few))));
      }

  new_edge : (i y : ℕ) → slice_get (slice_index_or rows x []) i ≡ Some y → IsEdge rows t (length s.left.items + i) (edge x y)
  new_edge i y at = record {
    leads = at_contains (slice_index_or rows x []) y i at;
    place = length s.path.items;
    stands = x_stands;
    behind = each_group (λ n g. (g.first ≤ length s.path.items) ↔ (g.edges ≤ length s.left.items + i))
        (λ n g old. let b = h.following.sound.groups.bounded n g old in ((λ le. omega (arith, b.1)), (λ le. b.0)))
        ((λ le. omega arith), (λ le. omega arith));
  }

  left : (j : ℕ) (e : Edge) → slice_get t.left.items j ≡ Some e → IsEdge rows t j e
  left j e at = ⊎_elim (λ o. old_edge j e o)
      (λ n. let y = map_cases (edge x) (slice_index_or rows x []) n.0 e n.2 in
      subst (λ e. IsEdge rows t j e) y.2 (subst (λ j. IsEdge rows t j (edge x y.0)) (sym n.1) (new_edge n.0 y.0 y.1)))
      (append_cases s.left.items (map (edge x) (slice_index_or rows x [])) j e (subst (λ l. slice_get l j ≡ Some e) h.entered.left at))

  is_left_new : (y z : ℕ) → IsLeft s y z → IsLeft t y z
  is_left_new y z l = (l.0, subst (λ es. slice_get es l.0 ≡ Some (edge y z)) (sym h.entered.left) (left_old s.left.items (map (edge x) (slice_index_or rows x [])) l.0 (edge y z) l.1))

  is_left : (z : ℕ) → LeadsTo rows x z → IsLeft t x z
  is_left z e =
      let c = contains_at (slice_index_or rows x []) z e in (
        length s.left.items + c.0,
        subst (λ es. slice_get es (length s.left.items + c.0) ≡ Some (edge x z)) (sym h.entered.left)
            (right_new s.left.items (map (edge x) (slice_index_or rows x [])) c.0 (edge x z) (map_at (edge x) (slice_index_or rows x []) c.0 z c.1)),
      )

  settled_new : (k y : ℕ) → k < length s.path.items → IsSettled s k y → IsSettled t k y
  settled_new k y lt settled = ⊎_elim (λ c. inl (closed_new y c)) (λ m. inr (m.0, stands_new m.0 y m.1, none_sooner k m.0 m.2 lt)) settled

  x_settled : (k : ℕ) → k < length s.path.items → IsSettled t k x
  x_settled k lt = inr (length s.path.items, x_stands, record { each = each_group (λ i g. g.first ≤ k → g.first ≤ length s.path.items) (λ i g old le. omega (arith, le, lt)) (λ le. omega arith) })

  followed : AreFollowed rows t (λ y. ⊥)
  followed k y z at e = ⊎_elim
      (λ o. ⊎_elim (λ l. inl (is_left_new y z l))
      (λ r. ⊎_elim (λ settled. inr (inl (settled_new k z (below k y o) settled)))
      (λ same. inr (inl (subst (λ z. IsSettled t k z) (sym same) (x_settled k (below k y o))))) r)
      (h.following.followed k y z o e))
      (λ n. inl (subst (λ y. IsLeft t y z) n.1 (is_left z (subst (λ y. LeadsTo rows y z) (sym n.1) e))))
      (stands_cases k y at)

  -- ---- marks

  marks : AreMarks rows t
  marks = record {
    closed = λ y z c e. closed_new z (h.following.sound.marks.closed y z (closed_old y c) e);
    right = λ y c. rw h.entered.marks (h.following.sound.marks.right y (closed_old y c));
    loops = λ y n. rw h.entered.marks (h.following.sound.marks.loops y (λ c. n (closed_new y c)));
  }

  -- ---- all together

  -- the search goes on
  pub entered_search : IsSearch rows t
  entered_search = record {
    sound = record {
      within = h.following.sound.within;
      sized = ap length h.entered.places ∙ set_length s.places.items x (Open (length s.path.items)) ∙ h.following.sound.sized;
      marked = ap length h.entered.marks ∙ h.following.sound.marked;
      path = record { placed = placed; forward = forward; covered = covered };
      groups = groups;
      left = left;
      marks = marks;
    };
    followed = followed;
  }

  -- what was met stays so
  pub entered_keeps : KeepsMet s t
  entered_keeps = record { met = unmet_old }

  -- x is met
  pub entered_met : IsUnmet t x → ⊥
  entered_met u = let e : Some Unmet ≡ Some (Open (length s.path.items)) = sym u ∙ x_place in cc

  -- no more is left to do: x pays for its group and its edges
  pub entered_less : work rows t ≤ work rows s
  entered_less =
      omega (arith, one_met rows s.places.items x (length s.path.items) h.following.sound.sized h.is_new, ap (unmet rows) h.entered.places, left_length, ap length h.entered.groups, length-append s.groups.items (newest s ∷ []))
