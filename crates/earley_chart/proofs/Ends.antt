-- A spot ends at more places: the board stays whole, and who waited is called.
use Rattle.std.proofs.Common.{ℕ, ◌+◌, ◌^◌, ◌<◌, ◌≤◌, ◌≡◌, ◌≢◌, ◌⊎◌, inl, inr, List, [], ◌∷◌, ◌++◌, Option, Some, None, length, get_or, refl, sym, ap, ◌∙◌, subst, ⊎_elim, arith}
use Rattle.std.specs.Prelude.{slice_get, slice_set, sum_by, nat_eq}
use Rattle.std.specs.List.{Contains, IsDistinct}
use Rattle.std.proofs.lemmas.Bool.{cases_eq}
use Rattle.std.proofs.lemmas.List.Sums.{sum_by-set}
use Rattle.std.proofs.lemmas.Option.{slice_get_within, get_or_from_slice_get}
use Rattle.earley_chart.specs.declared.places.Places.{Places}
use Rattle.earley_chart.specs.declared.board.Board.{Board}
use Rattle.earley_chart.specs.Places.{Has, Holds}
use Rattle.earley_chart.specs.code.Boards.{IsSpot, EndsAt, Lookers, Waits, IsWhole, Ended, found}
use Rattle.earley_chart.proofs.Lists.{set_same, set_other, set_length, set_cases}

-- what the board knew of a spot, and what it knows
pub record Raised (old now : Board) (at : ℕ) (ends : Places) : Type 0 where
  pub spots : now.spots ≡ old.spots
  pub seen : now.seen ≡ old.seen
  pub known : Places
  pub all : Places
  pub here : slice_get old.ends.items at ≡ Some known
  pub set : now.ends.items ≡ slice_set old.ends.items at all
  pub both : Holds all (λ j. Has known j ⊎ Has ends j)
  pub rises : known.0 < all.0
  pub small : all.0 < 2 ^ 128
  pub was : Lookers
  pub waited : slice_get old.waiting.items at ≡ Some was
  pub cleared : Lookers
  pub empty : cleared.keys ≡ []
  pub waiting : now.waiting.items ≡ slice_set old.waiting.items at cleared
  pub called : (other : ℕ) → Contains was.keys other → Contains now.again.keys other
  pub kept : (other : ℕ) → Contains old.again.keys other → Contains now.again.keys other
  pub from : (other : ℕ) → Contains now.again.keys other → Contains old.again.keys other ⊎ Contains was.keys other
  pub distinct : IsDistinct nat_eq old.again.keys → IsDistinct nat_eq now.again.keys

module _ (old now : Board) (at : ℕ) (ends : Places) (r : Raised old now at ends) where
  within : at < length old.ends.items
  within = slice_get_within old.ends.items at r.known r.here

  within_waiting : at < length old.waiting.items
  within_waiting = slice_get_within old.waiting.items at r.was r.waited

  known_has : (j : ℕ) → EndsAt old at j → Has r.known j
  known_has j h = let both : Some h.0 ≡ Some r.known = sym h.1 ∙ r.here in let one : h.0 ≡ r.known = cc in subst (λ (e : Places). Has e j) one h.2

  now_here : slice_get now.ends.items at ≡ Some r.all
  now_here = subst (λ l. slice_get l at ≡ Some r.all) (sym r.set) (set_same old.ends.items at r.all within)

  ends_other : (other : ℕ) → other ≢ at → slice_get now.ends.items other ≡ slice_get old.ends.items other
  ends_other other ne = ap (λ l. slice_get l other) r.set ∙ set_other old.ends.items at other r.all ne

  ended_kept : (other j : ℕ) → EndsAt old other j → EndsAt now other j
  ended_kept other j h = ⊎_elim
      (λ same. subst (λ k. EndsAt now k j) (sym same) (r.all, now_here, (r.both j).1 (inl (known_has j (subst (λ k. EndsAt old k j) same h)))))
      (λ ne. (h.0, ends_other other ne ∙ h.1, h.2))
      (cases_eq other at)

  ended_from : (other j : ℕ) → EndsAt now other j → EndsAt old other j ⊎ ((other ≡ at) × Has ends j)
  ended_from other j h = ⊎_elim
      (λ a. ⊎_elim (λ known. inl (r.known, subst (λ k. slice_get old.ends.items k ≡ Some r.known) (sym a.0) r.here, known)) (λ new. inr (a.0, new))
      ((r.both j).0 (subst (λ (e : Places). Has e j) (sym a.1) h.2)))
      (λ a. inl (h.0, a.1, h.2))
      (set_cases old.ends.items at other r.all h.0 within (subst (λ l. slice_get l other ≡ Some h.0) r.set h.1))

  ended_waits : (above other : ℕ) → Waits old above other →
      Contains now.again.keys above ⊎ (Waits now above other × ((j : ℕ) → EndsAt now other j → EndsAt old other j))
  ended_waits above other h = ⊎_elim
      (λ same.
      let both : Some h.0 ≡ Some r.was = sym h.1 ∙ ap (λ k. slice_get old.waiting.items k) same ∙ r.waited in
      let one : h.0 ≡ r.was = cc in
      inl (r.called above (subst (λ (v : Lookers). Contains v.keys above) one h.2)))
      (λ ne. inr (
        (h.0, ap (λ l. slice_get l other) r.waiting ∙ set_other old.waiting.items at other r.cleared ne ∙ h.1, h.2),
        λ j e. (e.0, sym (ends_other other ne) ∙ e.1, e.2),
      ))
      (cases_eq other at)

  waits_from : (above other : ℕ) → Waits now above other → Waits old above other
  waits_from above other h = ⊎_elim
      (λ a. absurd (nobody (subst (λ (v : Lookers). Contains v.keys above) (sym a.1) h.2)))
      (λ a. (h.0, a.1, h.2))
      (set_cases old.waiting.items at other r.cleared h.0 within_waiting (subst (λ l. slice_get l other ≡ Some h.0) r.waiting h.1))
    where
      nobody : Contains r.cleared.keys above → ⊥
      nobody c = let h = subst (λ l. Contains l above) r.empty c in absurd (omega (arith, h.1))

  more : found old < found now
  more =
      let sums = sum_by-set (λ (e : Places). e.0) old.ends.items at r.all r.known within in
      let read : get_or old.ends.items at r.known ≡ r.known = get_or_from_slice_get old.ends.items at r.known r.known r.here in
      omega (arith, sums, ap (λ (e : Places). e.0) read, r.rises, ap (λ l. sum_by (λ (e : Places). e.0) l) r.set, ap (λ s. length s.keys) r.spots)

  pub raised_ended : Ended old now at ends
  raised_ended = record {
    spots = r.spots;
    seen = r.seen;
    new = λ j h. (r.all, now_here, (r.both j).1 (inr h));
    kept = ended_kept;
    from = ended_from;
    waits = ended_waits;
    again = r.kept;
    found = inl more;
  }

  pub raised_whole : IsWhole old → IsWhole now
  raised_whole whole =
      let count : length now.spots.keys ≡ length old.spots.keys = ap (λ s. length s.keys) r.spots in
      record {
        ends = ap length r.set ∙ set_length old.ends.items at r.all ∙ whole.ends ∙ sym count;
        waiting = ap length r.waiting ∙ set_length old.waiting.items at r.cleared ∙ whole.waiting ∙ sym count;
        apart = λ k other s h h'. whole.apart k other s (subst (λ x. slice_get x.keys k ≡ Some s) r.spots h) (subst (λ x. slice_get x.keys other ≡ Some s) r.spots h');
        seen = omega (arith, count, r.seen, whole.seen);
        again = λ other h. subst (λ n. other < n) (sym count) (⊎_elim (λ was. whole.again other was) (λ call. whole.waits other at (r.was, r.waited, call)) (r.from other h));
        waits = λ above other h. subst (λ n. above < n) (sym count) (whole.waits above other (waits_from above other h));
        distinct = r.distinct whole.distinct;
        small = λ k e h. ⊎_elim (λ a. subst (λ (x : Places). x.0 < 2 ^ 128) a.1 r.small) (λ a. whole.small k e a.1)
            (set_cases old.ends.items at k r.all e within (subst (λ l. slice_get l k ≡ Some e) r.set h));
      }
