-- The last group is shut, as a component: its vertices are closed and marked where they are on a cycle (`right`), and the
-- path before it stays as it was. `Components` says what a component is; all else here is where each list is cut or
-- written.
use Rattle.std.proofs.Common.{arith, ◌≡◌, ◌⊎◌, ◌↔◌, inl, inr, ⊎_elim, sym, ap, subst, ◌∙◌, ℕ, ◌-◌, ◌<◌, ◌≤◌, true, Some, [], length}
use Rattle.std.specs.Prelude.{slice_get}
use Rattle.std.proofs.lemmas.Bool.{cases_lt}
use Rattle.std.proofs.lemmas.List.{length-take-le}
use Rattle.std.proofs.lemmas.Option.{slice_get_within, same_Some}
use Rattle.graph_cycles.specs.declared.search.Search.{Search}
use Rattle.graph_cycles.specs.declared.search.Group.{Group}
use Rattle.graph_cycles.specs.declared.search.Edge.{Edge}
use Rattle.graph_cycles.specs.declared.search.Place.TheVariants.{Unmet, Open, Closed}
use Rattle.graph_cycles.specs.Graphs.{Rows, LeadsTo, IsOnCycle}
use Rattle.graph_cycles.specs.code.Searches.{Stands, IsClosed, IsMarked, IsGroup, NoSooner, IsSettled, IsPath, AreGroups, IsEdge, AreFollowed, AreMarks, IsSearch, edge, work, unmet}
use Rattle.graph_cycles.specs.code.Steps.{Shut, KeepsMet}
use Rattle.graph_cycles.proofs.Lists.{take_old, take_stays, set_all_same, set_all_other, set_all_length}
use Rattle.graph_cycles.proofs.Work.{all_closed}
use Rattle.graph_cycles.proofs.Components.{IsComponent, IsMember, IsOutside, members, one_place, member_cases, not_closed, within, in_component, not_in, below_last, before, out, several_on_cycle, single_loop}

-- the component is shut
pub record Shuts (rows : Rows) (last : Group) (s t : Search) : Type 0 where
  pub component : IsComponent rows last s
  pub shut : Shut last.first s t

module _ (rows : Rows) (last : Group) (s t : Search) (h : Shuts rows last s t) where
  -- ---- places

  member_closed : (y : ℕ) → IsMember last.first s y → IsClosed t y
  member_closed y m =
      subst (λ ps. slice_get ps y ≡ Some Closed) (sym h.shut.places)
      (set_all_same (members last.first s) Closed s.places.items (m.place - last.first) y (in_component rows last s h.component y m)
      (omega (arith, within rows last s h.component y m, h.component.search.sound.sized)))

  other_place : (y : ℕ) → IsOutside last.first s y → slice_get t.places.items y ≡ slice_get s.places.items y
  other_place y out = ap (λ ps. slice_get ps y) h.shut.places ∙ set_all_other (members last.first s) Closed s.places.items y (not_in rows last s h.component y out)

  closed_new : (y : ℕ) → IsClosed s y → IsClosed t y
  closed_new y c = ⊎_elim (member_closed y) (λ out. other_place y out ∙ c) (member_cases rows last s h.component y)

  closed_cases : (y : ℕ) → IsClosed t y → IsMember last.first s y ⊎ (IsClosed s y × IsOutside last.first s y)
  closed_cases y c = ⊎_elim (λ m. inl m) (λ out. inr (sym (other_place y out) ∙ c, out)) (member_cases rows last s h.component y)

  -- ---- the path before the component

  stands_old : (k y : ℕ) → Stands t k y → (k < last.first) × Stands s k y
  stands_old k y at = take_old last.first s.path.items k y (subst (λ p. slice_get p k ≡ Some y) h.shut.path at)

  stands_new : (k y : ℕ) → Stands s k y → k < last.first → Stands t k y
  stands_new k y at lt = subst (λ p. slice_get p k ≡ Some y) (sym h.shut.path) (take_stays last.first s.path.items k y at lt)

  group_old : (i : ℕ) (g : Group) → IsGroup t i g → IsGroup s i g
  group_old i g at = (take_old (length s.groups.items - 1) s.groups.items i g (subst (λ l. slice_get l i ≡ Some g) h.shut.groups at)).1

  -- a group that begins by a place before the component is not the last one
  group_new : (i : ℕ) (g : Group) (k : ℕ) → IsGroup s i g → g.first ≤ k → k < last.first → IsGroup t i g
  group_new i g k at le lt =
      let inside = slice_get_within s.groups.items i g at in
      ⊎_elim
      (λ early. subst (λ l. slice_get l i ≡ Some g) (sym h.shut.groups) (take_stays (length s.groups.items - 1) s.groups.items i g at early))
      (λ end.
      let e : i ≡ length s.groups.items - 1 = omega (arith, inside, end) in
      let same : g ≡ last = same_Some g last (sym at ∙ ap (slice_get s.groups.items) e ∙ h.component.is_last) in
      absurd (omega (arith, ap (λ (g : Group). g.first) same, le, lt)))
      (cases_lt i (length s.groups.items - 1))

  none_old : (k m : ℕ) → k < last.first → NoSooner t k m → NoSooner s k m
  none_old k m lt none = record { each = λ i g at le. none.each i g (group_new i g k at le lt) le }

  none_new : (k m : ℕ) → NoSooner s k m → NoSooner t k m
  none_new k m none = record { each = λ i g at. none.each i g (group_old i g at) }

  placed : (k y : ℕ) → Stands t k y ↔ (slice_get t.places.items y ≡ Some (Open k))
  placed k y = (to, from)
    where
      to : Stands t k y → slice_get t.places.items y ≡ Some (Open k)
      to at =
          let old = stands_old k y at in
          other_place y (record { early = λ m stands. subst (λ n. n < last.first) (one_place rows last s h.component k m y old.1 stands) old.0 }) ∙ (h.component.search.sound.path.placed k y).0 old.1

      from : slice_get t.places.items y ≡ Some (Open k) → Stands t k y
      from p = ⊎_elim (λ m. let e : Some Closed ≡ Some (Open k) = sym (member_closed y m) ∙ p in absurd (cc))
          (λ out. let old = (h.component.search.sound.path.placed k y).1 (sym (other_place y out) ∙ p) in stands_new k y old (out.early k old))
          (member_cases rows last s h.component y)

  path : IsPath rows t
  path = record {
    placed = placed;
    forward = λ k m y z a b none.
        let old = stands_old k y a in
        h.component.search.sound.path.forward k m y z old.1 (stands_old m z b).1 (none_old k m old.0 none);
    covered = λ k y at.
        let old = stands_old k y at in
        let c = h.component.search.sound.path.covered k y old.1 in
        (c.0, c.1, group_new c.0 c.1 k c.2 c.3 old.0, c.3);
  }

  groups : AreGroups t
  groups = record {
    rising = λ i j a b at bt le. h.component.search.sound.groups.rising i j a b (group_old i a at) (group_old j b bt) le;
    bounded = λ i g at.
        let old = group_old i g at in
        let low = below_last rows last s h.component i g old in
        let size : length t.path.items ≡ last.first =
        ap length h.shut.path ∙ length-take-le last.first s.path.items ((h.component.search.sound.groups.bounded (length s.groups.items - 1) last h.component.is_last).0) in
        let few = h.component.search.sound.groups.bounded i g old in
        (omega (arith, low.0, size), omega (arith, few.1, ap length h.shut.left));
  }

  -- ---- edges

  left : (j : ℕ) (e : Edge) → slice_get t.left.items j ≡ Some e → IsEdge rows t j e
  left j e at =
      let is = subst (λ l. slice_get l j ≡ Some e) h.shut.left at in
      let old = h.component.search.sound.left j e is in
      record {
        leads = old.leads;
        place = old.place;
        stands = stands_new old.place e.from old.stands (before rows last s h.component j e old (slice_get_within s.left.items j e is));
        behind = λ i g at. old.behind i g (group_old i g at);
      }

  settled_new : (k y : ℕ) → IsSettled s k y → IsSettled t k y
  settled_new k y settled = ⊎_elim (λ c. inl (closed_new y c))
      (λ m. ⊎_elim (λ lt. inr (m.0, stands_new m.0 y m.1 lt, none_new k m.0 m.2)) (λ le. inl (member_closed y (record { place = m.0; stands = m.1; late = le }))) (cases_lt m.0 last.first))
      settled

  followed : AreFollowed rows t (λ y. ⊥)
  followed k y z at e = ⊎_elim (λ l. inl (l.0, subst (λ es. slice_get es l.0 ≡ Some (edge y z)) (sym h.shut.left) l.1))
      (λ r. ⊎_elim (λ settled. inr (inl (settled_new k z settled))) (λ none. absurd none) r)
      (h.component.search.followed k y z (stands_old k y at).1 e)

  -- ---- marks

  several_marked : (y : ℕ) → IsMember last.first s y → 1 < length (members last.first s) → IsMarked t y
  several_marked y m several =
      subst (λ ms. slice_get ms y ≡ Some true) (sym (h.shut.several several))
      (set_all_same (members last.first s) true s.marks.items (m.place - last.first) y (in_component rows last s h.component y m)
      (omega (arith, within rows last s h.component y m, h.component.search.sound.marked)))

  single_right : (y : ℕ) → IsMember last.first s y → length (members last.first s) ≤ 1 → IsMarked t y ↔ IsOnCycle rows y
  single_right y m single =
      let old = h.component.search.sound.marks.loops y (not_closed rows last s h.component y m) in
      let same = h.shut.single single in (
        (λ k. ([], old.0 (subst (λ ms. slice_get ms y ≡ Some true) same k))),
        (λ c. subst (λ ms. slice_get ms y ≡ Some true) (sym same) (old.1 (single_loop rows last s h.component y m single c))),
      )

  other_mark : (y : ℕ) → IsOutside last.first s y → slice_get t.marks.items y ≡ slice_get s.marks.items y
  other_mark y out = ⊎_elim
      (λ several. ap (λ ms. slice_get ms y) (h.shut.several several) ∙ set_all_other (members last.first s) true s.marks.items y (not_in rows last s h.component y out))
      (λ single. ap (λ ms. slice_get ms y) (h.shut.single single))
      (cases_lt 1 (length (members last.first s)))

  right : (y : ℕ) → IsClosed t y → IsMarked t y ↔ IsOnCycle rows y
  right y c = ⊎_elim
      (λ m. ⊎_elim (λ several. ((λ k. several_on_cycle rows last s h.component y m several), (λ o. several_marked y m several))) (λ single. single_right y m single)
      (cases_lt 1 (length (members last.first s))))
      (λ old. subst (λ b. (b ≡ Some true) ↔ IsOnCycle rows y) (sym (other_mark y old.1)) (h.component.search.sound.marks.right y old.0))
      (closed_cases y c)

  marks : AreMarks rows t
  marks = record {
    closed = λ y z c e. ⊎_elim
        (λ m. ⊎_elim (member_closed z) (closed_new z) (out rows last s h.component y z m e))
        (λ old. closed_new z (h.component.search.sound.marks.closed y z old.0 e)) (closed_cases y c);
    right = right;
    loops = λ y n. ⊎_elim (λ m. absurd (n (member_closed y m)))
        (λ out. subst (λ b. (b ≡ Some true) ↔ LeadsTo rows y y) (sym (other_mark y out)) (h.component.search.sound.marks.loops y (λ c. n (closed_new y c))))
        (member_cases rows last s h.component y);
  }

  marks_length : length t.marks.items ≡ length s.marks.items
  marks_length = ⊎_elim
      (λ several. ap length (h.shut.several several) ∙ set_all_length (members last.first s) true s.marks.items)
      (λ single. ap length (h.shut.single single))
      (cases_lt 1 (length (members last.first s)))

  -- ---- all together

  -- the search goes on
  pub shut_search : IsSearch rows t
  shut_search = record {
    sound = record {
      within = h.component.search.sound.within;
      sized = ap length h.shut.places ∙ set_all_length (members last.first s) Closed s.places.items ∙ h.component.search.sound.sized;
      marked = marks_length ∙ h.component.search.sound.marked;
      path = path;
      groups = groups;
      left = left;
      marks = marks;
    };
    followed = followed;
  }

  -- what was met stays so
  pub shut_keeps : KeepsMet s t
  shut_keeps = record { met = λ y u. ⊎_elim (λ m. let e : Some Closed ≡ Some Unmet = sym (member_closed y m) ∙ u in absurd (cc)) (λ out. sym (other_place y out) ∙ u) (member_cases rows last s h.component y) }

  -- one group less is left
  pub shut_less : work rows t < work rows s
  shut_less =
      let some = slice_get_within s.groups.items (length s.groups.items - 1) last h.component.is_last in
      let size : length t.groups.items ≡ length s.groups.items - 1 = ap length h.shut.groups ∙ length-take-le (length s.groups.items - 1) s.groups.items (omega arith) in
      omega (arith, some, size, ap length h.shut.left, ap (unmet rows) h.shut.places, all_closed rows (members last.first s) s.places.items)
