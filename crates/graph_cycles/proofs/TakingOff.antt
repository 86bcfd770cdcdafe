-- The last edge that is left is taken off: it comes from the last group, so all that is open reaches where it leads.
use Rattle.std.proofs.Common.{arith, ◌≡◌, ◌⊎◌, inl, inr, ⊎_elim, sym, ap, subst, ◌∙◌, ℕ, ◌+◌, ◌-◌, ◌<◌, ◌≤◌, Some, [], ◌∷◌, length, length-append}
use Rattle.std.specs.Prelude.{slice_get}
use Rattle.std.proofs.lemmas.Option.{slice_get_within}
use Rattle.graph_cycles.specs.declared.search.Search.{Search}
use Rattle.graph_cycles.specs.declared.search.Group.{Group}
use Rattle.graph_cycles.specs.declared.search.Edge.{Edge}
use Rattle.graph_cycles.specs.declared.search.Place.TheVariants.{Closed}
use Rattle.graph_cycles.specs.Graphs.{Rows}
use Rattle.graph_cycles.specs.code.Reaches.{Reaches}
use Rattle.graph_cycles.specs.code.Searches.{Stands, IsClosed, IsGroup, IsSettled, IsEdge, AreFollowed, IsSound, IsSearch, IsFollowing, edge}
use Rattle.graph_cycles.specs.code.Steps.{TakenOff}
use Rattle.graph_cycles.proofs.Lists.{left_old, push_new, push_cases}
use Rattle.graph_cycles.proofs.Cycles.{reaches_on}

-- the last group is this one, and some edge of it is left
pub record TakesOff (rows : Rows) (e : Edge) (s t : Search) : Type 0 where
  pub search : IsSearch rows s
  pub last : Group
  pub is_last : IsGroup s (length s.groups.items - 1) last
  pub more : last.edges < length s.left.items
  pub taken : TakenOff e s t

module _ (rows : Rows) (e : Edge) (s t : Search) (h : TakesOff rows e s t) where
  below_last : (i : ℕ) (g : Group) → IsGroup s i g → (g.first ≤ h.last.first) × (g.edges ≤ h.last.edges)
  below_last i g at =
      let lt = slice_get_within s.groups.items i g at in
      h.search.sound.groups.rising i (length s.groups.items - 1) g h.last at h.is_last (omega (arith, lt))

  left_length : length s.left.items ≡ length t.left.items + 1
  left_length = omega (arith, ap length h.taken.left, length-append t.left.items (e ∷ []))

  left_new : (j : ℕ) (d : Edge) → slice_get t.left.items j ≡ Some d → slice_get s.left.items j ≡ Some d
  left_new j d at = subst (λ l. slice_get l j ≡ Some d) (sym h.taken.left) (left_old t.left.items (e ∷ []) j d at)

  stands_new : (k y : ℕ) → Stands s k y → Stands t k y
  stands_new k y at = subst (λ l. slice_get l k ≡ Some y) (sym h.taken.path) at

  stands_old : (k y : ℕ) → Stands t k y → Stands s k y
  stands_old k y at = subst (λ l. slice_get l k ≡ Some y) h.taken.path at

  group_old : (i : ℕ) (g : Group) → IsGroup t i g → IsGroup s i g
  group_old i g at = subst (λ l. slice_get l i ≡ Some g) h.taken.groups at

  group_new : (i : ℕ) (g : Group) → IsGroup s i g → IsGroup t i g
  group_new i g at = subst (λ l. slice_get l i ≡ Some g) (sym h.taken.groups) at

  closed_new : (y : ℕ) → IsClosed s y → IsClosed t y
  closed_new y c = subst (λ l. slice_get l y ≡ Some Closed) (sym h.taken.places) c

  closed_old : (y : ℕ) → IsClosed t y → IsClosed s y
  closed_old y c = subst (λ l. slice_get l y ≡ Some Closed) h.taken.places c

  -- ---- the edge

  its_end : slice_get s.left.items (length t.left.items) ≡ Some e
  its_end = subst (λ l. slice_get l (length t.left.items) ≡ Some e) (sym h.taken.left) (push_new t.left.items e)

  its_facts : IsEdge rows s (length t.left.items) e
  its_facts = h.search.sound.left (length t.left.items) e its_end

  reached : (k y : ℕ) → Stands t k y → Reaches rows y e.to
  reached k y at =
      let late : h.last.edges ≤ length t.left.items = omega (arith, h.more, left_length) in
      let first = (its_facts.behind (length s.groups.items - 1) h.last h.is_last).1 late in
      reaches_on rows
      (h.search.sound.path.forward k its_facts.place y e.from (stands_old k y at) its_facts.stands
      (record { each = λ i g is le. let b = below_last i g is in omega (arith, b.0, first) })) its_facts.leads

  settled_new : (k y : ℕ) → IsSettled s k y → IsSettled t k y
  settled_new k y settled = ⊎_elim (λ c. inl (closed_new y c))
      (λ m. inr (m.0, stands_new m.0 y m.1, record { each = λ i g at. m.2.each i g (group_old i g at) })) settled

  followed : AreFollowed rows t (λ y. y ≡ e.to)
  followed k y z at d = ⊎_elim
      (λ l. ⊎_elim (λ old. inl (l.0, old)) (λ new. inr (inr (sym (ap (λ (f : Edge). f.to) new.1))))
      (push_cases t.left.items e l.0 (edge y z) (subst (λ es. slice_get es l.0 ≡ Some (edge y z)) h.taken.left l.1)))
      (λ r. ⊎_elim (λ settled. inr (inl (settled_new k z settled))) (λ none. absurd none) r)
      (h.search.followed k y z (stands_old k y at) d)

  left : (j : ℕ) (d : Edge) → slice_get t.left.items j ≡ Some d → IsEdge rows t j d
  left j d at =
      let old = h.search.sound.left j d (left_new j d at) in
      record { leads = old.leads; place = old.place; stands = stands_new old.place d.from old.stands; behind = λ i g is. old.behind i g (group_old i g is) }

  sound : IsSound rows t
  sound = record {
    within = h.search.sound.within;
    sized = ap length h.taken.places ∙ h.search.sound.sized;
    marked = ap length h.taken.marks ∙ h.search.sound.marked;
    path = record {
      placed = λ k y. rw (h.taken.path, h.taken.places) (h.search.sound.path.placed k y);
      forward = λ k m y z a b none. h.search.sound.path.forward k m y z (stands_old k y a) (stands_old m z b) (record { each = λ i g at. none.each i g (group_new i g at) });
      covered = λ k y at. let c = h.search.sound.path.covered k y (stands_old k y at) in (c.0, c.1, group_new c.0 c.1 c.2, c.3);
    };
    groups = record {
      rising = λ i j a b at bt le. h.search.sound.groups.rising i j a b (group_old i a at) (group_old j b bt) le;
      bounded = λ i g at.
          let old = h.search.sound.groups.bounded i g (group_old i g at) in
          let low = below_last i g (group_old i g at) in
          (omega (arith, old.0, ap length h.taken.path), omega (arith, low.1, h.more, left_length));
    };
    left = left;
    marks = record {
      closed = λ y z c d. closed_new z (h.search.sound.marks.closed y z (closed_old y c) d);
      right = λ y c. rw h.taken.marks (h.search.sound.marks.right y (closed_old y c));
      loops = λ y n. rw h.taken.marks (h.search.sound.marks.loops y (λ c. n (closed_new y c)));
    };
  }

  -- its end is to be followed
  pub taken_follows : IsFollowing rows t e.to
  taken_follows = record {
    sound = sound;
    followed = followed;
    reached = reached;
    inside = h.search.sound.within.inside e.from e.to its_facts.leads;
  }
