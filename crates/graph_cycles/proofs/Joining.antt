-- An edge to an open vertex joins the groups from that one on: they reach the vertex, and it reaches them.
use Rattle.std.proofs.Common.{arith, ◌≡◌, ◌⊎◌, inl, inr, ⊎_elim, sym, ap, subst, ◌∙◌, ℕ, ◌<◌, ◌≤◌, Some, length}
use Rattle.std.specs.Prelude.{slice_get}
use Rattle.std.proofs.lemmas.Bool.{cases_lt}
use Rattle.graph_cycles.specs.declared.search.Search.{Search}
use Rattle.graph_cycles.specs.declared.search.Group.{Group}
use Rattle.graph_cycles.specs.declared.search.Edge.{Edge}
use Rattle.graph_cycles.specs.declared.search.Place.TheVariants.{Unmet, Open, Closed}
use Rattle.graph_cycles.specs.Graphs.{Rows}
use Rattle.graph_cycles.specs.code.Reaches.{Reaches}
use Rattle.graph_cycles.specs.code.Searches.{Stands, IsClosed, IsUnmet, IsGroup, NoSooner, IsSettled, IsEdge, AreFollowed, AreMarks, IsSearch, IsFollowing, edge, work, unmet}
use Rattle.graph_cycles.specs.code.Steps.{Joined, KeepsMet}
use Rattle.graph_cycles.proofs.Cycles.{reaches_from}

-- x stands at place p of the path, and the groups are joined there
pub record Joins (rows : Rows) (x p : ℕ) (s t : Search) : Type 0 where
  pub following : IsFollowing rows s x
  pub is_open : slice_get s.places.items x ≡ Some (Open p)
  pub joined : Joined p s t

module _ (rows : Rows) (x p : ℕ) (s t : Search) (h : Joins rows x p s t) where
  x_stands : Stands s p x
  x_stands = (h.following.sound.path.placed p x).1 h.is_open

  stands_new : (k y : ℕ) → Stands s k y → Stands t k y
  stands_new k y at = subst (λ l. slice_get l k ≡ Some y) (sym h.joined.joining.path) at

  stands_old : (k y : ℕ) → Stands t k y → Stands s k y
  stands_old k y at = subst (λ l. slice_get l k ≡ Some y) h.joined.joining.path at

  closed_new : (y : ℕ) → IsClosed s y → IsClosed t y
  closed_new y c = subst (λ l. slice_get l y ≡ Some Closed) (sym h.joined.joining.places) c

  closed_old : (y : ℕ) → IsClosed t y → IsClosed s y
  closed_old y c = subst (λ l. slice_get l y ≡ Some Closed) h.joined.joining.places c

  none_sooner : (k m : ℕ) → NoSooner s k m → NoSooner t k m
  none_sooner k m none = record { each = λ i g at. none.each i g (h.joined.joining.kept i g at) }

  -- before the place the groups are as they were
  same_before : (k m : ℕ) → k < p → NoSooner t k m → NoSooner s k m
  same_before k m lt none = record { each = λ i g at le. none.each i g (h.joined.joining.stays i g at (omega (arith, le, lt))) le }

  from_there : (k m : ℕ) → p ≤ k → NoSooner t k m → NoSooner s p m
  from_there k m le none = record { each = λ i g at first. none.each i g (h.joined.joining.stays i g at first) (omega (arith, le, first)) }

  forward : (k m y z : ℕ) → Stands t k y → Stands t m z → NoSooner t k m → Reaches rows y z
  forward k m y z a b none = ⊎_elim
      (λ lt. h.following.sound.path.forward k m y z (stands_old k y a) (stands_old m z b) (same_before k m lt none))
      (λ le. reaches_from rows (h.following.reached k y (stands_old k y a)) (h.following.sound.path.forward p m x z x_stands (stands_old m z b) (from_there k m le none)))
      (cases_lt k p)

  covered : (k y : ℕ) → Stands t k y → (i : ℕ) × (g : Group) × IsGroup t i g × (g.first ≤ k)
  covered k y at = ⊎_elim
      (λ lt. let c = h.following.sound.path.covered k y (stands_old k y at) in (c.0, c.1, h.joined.joining.stays c.0 c.1 c.2 (omega (arith, c.3, lt)), c.3))
      (λ le. let c = h.following.sound.path.covered p x x_stands in (c.0, c.1, h.joined.joining.stays c.0 c.1 c.2 c.3, omega (arith, c.3, le)))
      (cases_lt k p)

  left : (j : ℕ) (e : Edge) → slice_get t.left.items j ≡ Some e → IsEdge rows t j e
  left j e at =
      let old = h.following.sound.left j e (subst (λ l. slice_get l j ≡ Some e) h.joined.joining.left at) in
      record { leads = old.leads; place = old.place; stands = stands_new old.place e.from old.stands; behind = λ i g at. old.behind i g (h.joined.joining.kept i g at) }

  settled_new : (k y : ℕ) → IsSettled s k y → IsSettled t k y
  settled_new k y settled = ⊎_elim (λ c. inl (closed_new y c)) (λ m. inr (m.0, stands_new m.0 y m.1, none_sooner k m.0 m.2)) settled

  x_settled : (k : ℕ) → IsSettled t k x
  x_settled k = inr (p, stands_new p x x_stands, record { each = λ i g at le. h.joined.low i g at })

  followed : AreFollowed rows t (λ y. ⊥)
  followed k y z at e = ⊎_elim (λ l. inl (l.0, subst (λ es. slice_get es l.0 ≡ Some (edge y z)) (sym h.joined.joining.left) l.1))
      (λ r. ⊎_elim (λ settled. inr (inl (settled_new k z settled))) (λ same. inr (inl (subst (λ z. IsSettled t k z) (sym same) (x_settled k)))) r)
      (h.following.followed k y z (stands_old k y at) e)

  marks : AreMarks rows t
  marks = record {
    closed = λ y z c e. closed_new z (h.following.sound.marks.closed y z (closed_old y c) e);
    right = λ y c. rw h.joined.joining.marks (h.following.sound.marks.right y (closed_old y c));
    loops = λ y n. rw h.joined.joining.marks (h.following.sound.marks.loops y (λ c. n (closed_new y c)));
  }

  -- the search goes on
  pub joined_search : IsSearch rows t
  joined_search = record {
    sound = record {
      within = h.following.sound.within;
      sized = ap length h.joined.joining.places ∙ h.following.sound.sized;
      marked = ap length h.joined.joining.marks ∙ h.following.sound.marked;
      path = record {
        placed = λ k y. rw (h.joined.joining.path, h.joined.joining.places) (h.following.sound.path.placed k y);
        forward = forward;
        covered = covered;
      };
      groups = record {
        rising = λ i j a b at bt le. h.following.sound.groups.rising i j a b (h.joined.joining.kept i a at) (h.joined.joining.kept j b bt) le;
        bounded = λ i g at. rw (h.joined.joining.path, h.joined.joining.left) (h.following.sound.groups.bounded i g (h.joined.joining.kept i g at));
      };
      left = left;
      marks = marks;
    };
    followed = followed;
  }

  -- what was met stays so
  pub joined_keeps : KeepsMet s t
  joined_keeps = record { met = λ y u. subst (λ l. slice_get l y ≡ Some Unmet) h.joined.joining.places u }

  -- x is met
  pub joined_met : IsUnmet t x → ⊥
  joined_met u = let e : Some Unmet ≡ Some (Open p) = sym u ∙ ap (λ l. slice_get l x) h.joined.joining.places ∙ h.is_open in cc

  -- no more is left to do
  pub joined_less : work rows t ≤ work rows s
  joined_less = omega (arith, h.joined.joining.fewer, ap length h.joined.joining.left, ap (unmet rows) h.joined.joining.places)

-- an edge to a closed vertex changes nothing
pub closed_search : (rows : Rows) (x : ℕ) (s : Search) → IsFollowing rows s x → IsClosed s x → IsSearch rows s
closed_search rows x s f c = record {
  sound = f.sound;
  followed = λ k y z at e. ⊎_elim (λ l. inl l)
      (λ r. ⊎_elim (λ settled. inr (inl settled)) (λ same. inr (inl (inl (subst (λ z. IsClosed s z) (sym same) c)))) r)
      (f.followed k y z at e);
}
