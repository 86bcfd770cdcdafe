-- One spot more on a board: it stays whole, and nothing that was there changes.
use Rattle.std.proofs.Common.{Bool, true, false, ◌&&◌, eqb, ℕ, ◌+◌, ◌^◌, ◌<◌, ◌≤◌, ◌≡◌, ◌≢◌, ◌⊎◌, inl, inr, List, [], ◌∷◌, ◌++◌, Option, Some, None, length, refl, sym, ap, ◌∙◌, subst, ⊎_elim, arith, length-append, eq-eqb, eqb-true}
use Rattle.std.specs.Prelude.{slice_get, sum_by}
use Rattle.std.specs.List.{Contains, IsDistinct}
use Rattle.std.specs.Bool.{Decides}
use Rattle.std.proofs.lemmas.Bool.{and_parts, and_from}
use Rattle.std.proofs.lemmas.List.Sums.{sum_by_push}
use Rattle.std.proofs.lemmas.Option.{slice_get_within}
use Rattle.earley_chart.specs.declared.places.Places.{Places}
use Rattle.earley_chart.specs.declared.board.Spot.{Spot}
use Rattle.earley_chart.specs.declared.board.Board.{Board}
use Rattle.earley_chart.specs.Places.{Has}
use Rattle.earley_chart.specs.code.Boards.{IsSpot, EndsAt, Lookers, Waits, IsWhole, Grows}
use Rattle.earley_chart.proofs.Bits.{none_has}
use Rattle.earley_chart.proofs.Lists.{push_old, push_new, push_cases, one_number}

abbrev pub spot_eq : Spot → Spot → Bool
spot_eq a b = eqb a.node b.node && (eqb a.step b.step && eqb a.start b.start)

pub spot_same : (a b : Spot) → Decides (spot_eq a b) (a ≡ b)
spot_same a b = (there, back)
  where
    there : spot_eq a b ≡ true → a ≡ b
    there h =
        let p = and_parts _ _ h in
        let q = and_parts _ _ p.1 in
        let node : a.node ≡ b.node = eqb-true _ _ p.0 in
        let step : a.step ≡ b.step = eqb-true _ _ q.0 in
        let start : a.start ≡ b.start = eqb-true _ _ q.1 in
        λ j. record { node = node j; step = step j; start = start j }

    back : a ≡ b → spot_eq a b ≡ true
    back e = and_from _ _ (eq-eqb _ _ (ap (λ (s : Spot). s.node) e)) (and_from _ _ (eq-eqb _ _ (ap (λ (s : Spot). s.step) e)) (eq-eqb _ _ (ap (λ (s : Spot). s.start) e)))

pub apart : (keys : List Spot) → IsDistinct spot_eq keys → (at other : ℕ) (s : Spot) → slice_get keys at ≡ Some s → slice_get keys other ≡ Some s → at ≡ other
apart keys d at other s h h' = one_number spot_eq spot_same keys d at other s h h'

-- the spot goes last, with no end and nobody who waits
pub record Pushed (old now : Board) (spot : Spot) : Type 0 where
  pub keys : now.spots.keys ≡ old.spots.keys ++ spot ∷ []
  pub none : Places
  pub empty : none ≡ record { 0 = 0 }
  pub ends : now.ends.items ≡ old.ends.items ++ none ∷ []
  pub nobody : Lookers
  pub idle : nobody.keys ≡ []
  pub waiting : now.waiting.items ≡ old.waiting.items ++ nobody ∷ []
  pub seen : now.seen ≡ old.seen
  pub again : now.again ≡ old.again
  pub unique : IsDistinct spot_eq now.spots.keys

module _ (old now : Board) (spot : Spot) (p : Pushed old now spot) (whole : IsWhole old) where
  longer : length now.spots.keys ≡ length old.spots.keys + 1
  longer = ap length p.keys ∙ length-append old.spots.keys (spot ∷ [])

  pub pushed_last : IsSpot now (length old.spots.keys) spot
  pushed_last = subst (λ l. slice_get l (length old.spots.keys) ≡ Some spot) (sym p.keys) (push_new old.spots.keys spot)

  pub pushed_other : (at : ℕ) (s : Spot) → IsSpot now at s → IsSpot old at s ⊎ (s ≡ spot)
  pushed_other at s h =
      ⊎_elim (λ a. inl a) (λ a. inr (sym a.1)) (push_cases old.spots.keys spot at s (subst (λ l. slice_get l at ≡ Some s) p.keys h))

  ends_were : (at j : ℕ) → EndsAt now at j → EndsAt old at j
  ends_were at j h =
      ⊎_elim (λ a. (h.0, a, h.2)) (λ a. absurd (none_has h.0 j (sym a.1 ∙ p.empty) h.2))
      (push_cases old.ends.items p.none at h.0 (subst (λ l. slice_get l at ≡ Some h.0) p.ends h.1))

  waits_were : (above at : ℕ) → Waits now above at → Waits old above at
  waits_were above at h =
      ⊎_elim (λ a. (h.0, a, h.2)) (λ a. absurd (nobody (subst (λ (v : Lookers). Contains v.keys above) (sym a.1) h.2)))
      (push_cases old.waiting.items p.nobody at h.0 (subst (λ l. slice_get l at ≡ Some h.0) p.waiting h.1))
    where
      nobody : Contains p.nobody.keys above → ⊥
      nobody c = let h = subst (λ l. Contains l above) p.idle c in absurd (omega (arith, h.1))

  pub pushed_grows : Grows old now
  pushed_grows = record {
    spots = λ at s h. subst (λ l. slice_get l at ≡ Some s) (sym p.keys) (push_old old.spots.keys spot at s h);
    more = omega (arith, longer);
    ends = ends_were;
    ended = λ at j h. (h.0, subst (λ l. slice_get l at ≡ Some h.0) (sym p.ends) (push_old old.ends.items p.none at h.0 h.1), h.2);
    waits = λ above at h. (h.0, subst (λ l. slice_get l at ≡ Some h.0) (sym p.waiting) (push_old old.waiting.items p.nobody at h.0 h.1), h.2);
    seen = p.seen;
    again = p.again;
    bits = ap (sum_by (λ (e : Places). e.0)) p.ends ∙ sum_by_push (λ (e : Places). e.0) old.ends.items p.none
        ∙ omega (arith, ap (λ (e : Places). e.0) p.empty);
  }

  pub pushed_whole : IsWhole now
  pushed_whole = record {
    ends = omega (arith, longer, ap length p.ends ∙ length-append old.ends.items (p.none ∷ []), whole.ends);
    waiting = omega (arith, longer, ap length p.waiting ∙ length-append old.waiting.items (p.nobody ∷ []), whole.waiting);
    apart = λ at other s h h'. apart now.spots.keys p.unique at other s h h';
    seen = omega (arith, longer, whole.seen, p.seen);
    again = λ at h. (let was = whole.again at (subst (λ a. Contains a.keys at) p.again h) in omega (arith, was, longer));
    waits = λ above at h. (let was = whole.waits above at (waits_were above at h) in omega (arith, was, longer));
    distinct = subst (λ a. IsDistinct eqb a.keys) (sym p.again) whole.distinct;
    small = λ at e h. ⊎_elim (λ a. whole.small at e a) (λ a. (let z : e.0 ≡ 0 = ap (λ (x : Places). x.0) (sym a.1 ∙ p.empty) in subst (λ n. n < 2 ^ 128) (sym z) (omega arith)))
        (push_cases old.ends.items p.none at e (subst (λ l. slice_get l at ≡ Some e) p.ends h));
  }
