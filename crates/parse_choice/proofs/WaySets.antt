-- The sets of places that the code makes (`accepted.rt`): one set more at the end of a list, the places before a node,
-- the ways of a repeat up to some number of turns.
use Rattle.std.proofs.Common.{ℕ, zero, suc, ◌+◌, ◌<◌, ◌≤◌, ◌≡◌, ◌⊎◌, inl, inr, Bool, true, List, [], ◌∷◌, ◌++◌, Some, None, length, refl, sym, ap, ◌∙◌, subst, ⊎_elim, arith, length-append}
use Rattle.std.specs.Prelude.{slice_get}
use Rattle.std.proofs.lemmas.Bool.{cases_lt}
use Rattle.vg_base.specs.declared.numbers.NodeIx.{NodeIx}
use Rattle.earley_chart.specs.declared.places.Places.{Places}
use Rattle.earley_chart.specs.Places.{Has, Holds}
use Rattle.earley_chart.specs.Chart.{Table, Spans}
use Rattle.parse_choice.specs.code.Ways.{AreInLine, Leaves, IsBefore, Lead, HasAt, AreWays, ends_of}

module _ {X : Type 0} where
  pub get_more : (xs ys : List X) (l : ℕ) (y : X) → slice_get xs l ≡ Some y → slice_get (xs ++ ys) l ≡ Some y
  get_more [] ys l y e = absurd (cc)
  get_more (x ∷ xs) ys zero y e = e
  get_more (x ∷ xs) ys (suc l) y e = get_more xs ys l y e

  pub get_last : (xs : List X) (x : X) → slice_get (xs ++ x ∷ []) (length xs) ≡ Some x
  get_last [] x = refl
  get_last (y ∷ xs) x = get_last xs x

  pub get_cases : (xs : List X) (x : X) (l : ℕ) (y : X) → slice_get (xs ++ x ∷ []) l ≡ Some y → (slice_get xs l ≡ Some y) ⊎ ((l ≡ length xs) × (x ≡ y))
  get_cases [] x zero y e = inr (refl, cc)
  get_cases [] x (suc l) y e = absurd (let no : None ≡ Some y = e in cc (no))
  get_cases (z ∷ xs) x zero y e = inl e
  get_cases (z ∷ xs) x (suc l) y e = ⊎_elim (λ a. inl a) (λ b. inr (ap suc b.0, b.1)) (get_cases xs x l y e)

module _ (c : Table) (line : AreInLine c) (n : NodeIx) where
  -- the places further on
  pub leaves_further : (i : ℕ) (ends past all : Places) (w : Bool) → w ≡ true → Holds ends (λ j. Spans c n i j) → Holds past (λ j. (i + 1 ≤ j) × (j ≤ 65)) → Holds all (λ j. Has ends j × Has past j) →
      Holds all (Leaves c n i w)
  leaves_further i ends past all w is e p a = λ j. (
    λ h. (let both = (a j).0 h in ((e j).0 both.0, λ t. omega (arith, ((p j).0 both.1).0))),
    λ h. (a j).1 ((e j).1 h.0, (p j).1 (omega (arith, h.1 is), omega (arith, line n i j h.0))),
  )

  module _ (ends : Places) where
    -- the ways up to some number of turns, and the places from which so many lead to an end
    pub record WaysSoFar (sets : List Places) (set : Places) (k : ℕ) : Type 0 where
      pub count : length sets ≡ k
      pub first : k ≡ 0 → set ≡ ends
      pub begin : 0 < k → ends_of sets ≡ ends
      pub from : (l i : ℕ) → HasAt sets l i → Lead c n ends l i
      pub has : (l i : ℕ) → l < k → i < 65 → Lead c n ends l i → HasAt sets l i
      pub set_from : (i : ℕ) → Has set i → Lead c n ends k i
      pub set_has : (i : ℕ) → i < 65 → Lead c n ends k i → Has set i

    pub no_ways : (sets : List Places) → sets ≡ [] → WaysSoFar sets ends 0
    no_ways sets e = record {
      count = ap length e;
      first = λ z. refl;
      begin = λ lt. absurd (omega (arith, lt));
      from = λ l i h. absurd (let no : None ≡ Some h.0 = sym (ap (λ (xs : List Places). slice_get xs l) e) ∙ h.1 in cc (no));
      has = λ l i lt within h. absurd (omega (arith, lt));
      set_from = λ i h. h;
      set_has = λ i within h. h;
    }

    begins : (sets : List Places) (set : Places) (k : ℕ) → length sets ≡ k → (k ≡ 0 → set ≡ ends) → (0 < k → ends_of sets ≡ ends) → ends_of (sets ++ set ∷ []) ≡ ends
    begins [] set k e f b = f (sym e)
    begins (x ∷ sets) set k e f b = b (omega (arith, e))

    pub one_way_more : (sets new : List Places) (set next : Places) (k : ℕ) → WaysSoFar sets set k → new ≡ sets ++ set ∷ [] → IsBefore c n set true next → WaysSoFar new next (k + 1)
    one_way_more sets new set next k so is before =
        let more : k + 1 ≡ suc k = omega arith in
        subst (λ xs. WaysSoFar xs next (k + 1)) (sym is) (record {
          count = length-append sets (set ∷ []) ∙ ap (λ m. m + 1) so.count;
          first = λ z. absurd (omega (arith, z));
          begin = λ lt. begins sets set k so.count so.first so.begin;
          from = λ l i h. ⊎_elim (λ old. so.from l i (h.0, old, h.2))
              (λ new. subst (λ m. Lead c n ends m i) (sym (new.0 ∙ so.count)) (so.set_from i (subst (λ (x : Places). Has x i) (sym new.1) h.2)))
              (get_cases sets set l h.0 h.1);
          has = λ l i lt within h. ⊎_elim
              (λ below. (let old = so.has l i below within h in (old.0, get_more sets (set ∷ []) l old.0 old.1, old.2)))
              (λ here. (let same : l ≡ k = omega (arith, lt, here) in
              (set, subst (λ m. slice_get (sets ++ set ∷ []) m ≡ Some set) (so.count ∙ sym same) (get_last sets set), so.set_has i within (subst (λ m. Lead c n ends m i) same h))))
              (cases_lt l k);
          set_from = λ i h. (let e = before.from i h in subst (λ m. Lead c n ends m i) (sym more) (e.0, e.1.1 refl, e.1.0, so.set_from e.0 e.2));
          set_has = λ i within h. (let e = subst (λ m. Lead c n ends m i) more h in
              before.has i within (e.0, (e.2, λ t. e.1), so.set_has e.0 (line n i e.0 e.2) e.3));
        })

    -- a way of so many turns takes as many words
    lead_short : (l i : ℕ) → i < 65 → Lead c n ends l i → l + i < 65
    lead_short zero i within h = omega (arith, within)
    lead_short (suc l) i within h = omega (arith, lead_short l h.0 (line n i h.0 h.2) h.3, h.1)

    no_longer : (m : ℕ) → ((i : ℕ) → i < 65 → Lead c n ends m i → ⊥) → (l i : ℕ) → m ≤ l → i < 65 → Lead c n ends l i → ⊥
    no_longer m none zero i le within h = none i within (let same : zero ≡ m = omega (arith, le) in subst (λ k. Lead c n ends k i) same h)
    no_longer m none (suc l) i le within h = ⊎_elim
        (λ lt. no_longer m none l h.0 (omega (arith, lt)) (line n i h.0 h.2) h.3)
        (λ ge. none i within (let same : suc l ≡ m = omega (arith, le, ge) in subst (λ k. Lead c n ends k i) same h))
        (cases_lt m (suc l))

    are_ways : (sets : List Places) (set : Places) (k : ℕ) → WaysSoFar sets set k → 0 < k → k ≤ 65 → ((i : ℕ) → i < 65 → Lead c n ends k i → ⊥) → AreWays c n ends sets
    are_ways sets set k so some few none = record {
      few = omega (arith, so.count, few);
      first = so.begin some;
      from = so.from;
      has = λ l i within h. ⊎_elim (λ lt. so.has l i lt within h) (λ ge. absurd (no_longer k none l i ge within h)) (cases_lt l k);
    }

    pub all_ways : (sets : List Places) (set : Places) (k : ℕ) → WaysSoFar sets set k → k ≡ 65 → AreWays c n ends sets
    all_ways sets set k so e = are_ways sets set k so (omega (arith, e)) (omega (arith, e)) (λ i within h. omega (arith, lead_short k i within h, e))

    pub ways_end : (sets : List Places) (set : Places) (k : ℕ) → WaysSoFar sets set k → 0 < k → k ≤ 65 → ((j : ℕ) → Has set j → ⊥) → AreWays c n ends sets
    ways_end sets set k so some few none = are_ways sets set k so some few (λ i within h. none i (so.set_has i within h))
