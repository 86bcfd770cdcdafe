-- What a spot of each kind asks was asked, and its ends are right.
use Rattle.std.proofs.Common.{Bool, true, false, ℕ, ◌+◌, ◌-◌, ◌<◌, ◌≤◌, ◌≡◌, ◌≢◌, ◌⊎◌, inl, inr, List, Option, Some, None, length, get_or, refl, sym, ap, ◌∙◌, subst, ⊎_elim, arith}
use Rattle.std.specs.Prelude.{slice_get}
use Rattle.vg_base.specs.declared.numbers.NodeIx.{NodeIx}
use Rattle.grammar_tree.specs.declared.linked.Node.{Node}
use Rattle.grammar_tree.specs.declared.linked.Node.TheVariants as node
use Rattle.grammar_tree.specs.Links.{node_at}
use Rattle.earley_chart.specs.declared.places.Places.{Places}
use Rattle.earley_chart.specs.declared.board.Spot.{Spot}
use Rattle.earley_chart.specs.declared.board.Board.{Board}
use Rattle.earley_chart.specs.declared.reading.Task.{Task}
use Rattle.std.proofs.lemmas.Option.{slice_get_within}
use Rattle.earley_chart.specs.Places.{Has, Holds}
use Rattle.earley_chart.proofs.Bits.{none_has}
use Rattle.earley_chart.specs.code.Reads.{IsPlace}
use Rattle.earley_chart.specs.code.Boards.{node_of, spot_at, moved, Sees, Asks, Grows}
use Rattle.earley_chart.specs.code.Sound.{rules_of, words_of, RightSpot, RightEnd, IsGood, IsOf, Went, Answer}
use Rattle.earley_chart.proofs.KindSteps.{seq_first, seq_next, seq_step, seq_all, seq_last, seq_on, alt_first, alt_next, alt_end, alt_on, first_leads, leads_place}
use Rattle.earley_chart.proofs.Visits.{grows_stays, sees_stays}

module _ (t : Task) (b : Board) (at : ℕ) (s : Spot) where
  -- what is asked may be shown of the kind that the node has
  pub answer_of : (x : Node) (ends : Places) → node_at (rules_of t) (node_of s) ≡ Some x →
      Asks (rules_of t) (words_of t) t.reading.goes_on b at x s (Has ends) → ((j : ℕ) → Has ends j → RightEnd t s j) → Answer t b at s ends
  answer_of x ends e asks right = record {
    asks = λ x' e'.
        (let both : Some x ≡ Some x' = sym e ∙ e' in
        let same : x ≡ x' = cc in
        subst (λ (y : Node). Asks (rules_of t) (words_of t) t.reading.goes_on b at y s (Has ends)) same asks);
    right = right;
  }

-- a place is one of few
pub place_few : (t : Task) (j : ℕ) → length (words_of t) ≤ 64 → IsPlace (words_of t) t.reading.goes_on j → j < 66
place_few t j few (inl le) = omega (arith, le, few)
place_few t j few (inr a) = omega (arith, a.1, few)

pub start_few : (t : Task) (b : Board) (at : ℕ) (s : Spot) → IsOf t b at s → s.start < 66
start_few t b at s of = place_few t s.start of.good.few (of.good.sound.spots at s of.here).place

pub at_within : (t : Task) (b : Board) (at : ℕ) (s : Spot) → IsOf t b at s → at < length b.spots.keys
at_within t b at s of = slice_get_within b.spots.keys at s of.here

-- what was looked at before is still seen
pub sees_still : (t : Task) (one two : Board) (at : ℕ) (s : Spot) (P : ℕ → Type 0) → Went t one two → Sees one at s P → Sees two at s P
sees_still t one two at s P went h = sees_stays one two at (grows_stays one two at went.grows) s P P (λ j x. x) h

module _ (t : Task) (old : Board) (at : ℕ) (s : Spot) (of : IsOf t old at s) where
  pub right_spot : RightSpot t s
  right_spot = of.good.sound.spots at s of.here

  module _ (ps : List NodeIx) (e : node_at (rules_of t) (node_of s) ≡ Some (node.Seq ps)) where
    pub seq_done : (b : Board) (ends : Places) → length ps ≤ s.step → Holds ends (λ j. j ≡ s.start) → Answer t b at s ends
    seq_done b ends le holds = answer_of t b at s (node.Seq ps) ends e
        (λ same. (holds s.start).1 refl, λ p get. absurd (omega (arith, le, slice_get_within ps s.step p get)))
        (λ j h. subst (RightEnd t s) (sym ((holds j).0 h)) (seq_all (rules_of t) (words_of t) t.reading.goes_on t.rule s right_spot of.good.linked ps e
        (omega (arith, le, seq_step (rules_of t) (words_of t) t.reading.goes_on t.rule s right_spot of.good.linked ps e))))

    module _ (p : NodeIx) (get : slice_get ps s.step ≡ Some p) where
      same_part : (q : NodeIx) → slice_get ps s.step ≡ Some q → p ≡ q
      same_part q get' = let both : Some p ≡ Some q = sym get ∙ get' in cc

      pub part_spot : RightSpot t (spot_at p 0 s.start)
      part_spot = seq_first (rules_of t) (words_of t) t.reading.goes_on t.rule s right_spot of.good.linked ps e p get

      pub part_next : (j : ℕ) → RightEnd t (spot_at p 0 s.start) j → RightSpot t (spot_at (node_of s) (s.step + 1) j)
      part_next j end = seq_next (rules_of t) (words_of t) t.reading.goes_on t.rule s right_spot of.good.linked ps e p j get end

      pub part_last : (b : Board) (ends : Places) → s.step + 1 ≡ length ps → Sees b at (spot_at p 0 s.start) (Has ends) →
          ((j : ℕ) → Has ends j → RightEnd t (spot_at p 0 s.start) j) → Answer t b at s ends
      part_last b ends last sees right = answer_of t b at s (node.Seq ps) ends e (
        λ same. absurd (omega (arith, same, last)),
        λ q get'. subst (λ (x : NodeIx). Sees b at (spot_at x 0 s.start) (λ j. (s.step + 1 ≡ length ps → Has ends j) × (s.step + 1 < length ps → Sees b at (spot_at (node_of s) (s.step + 1) j) (Has ends))))
            (same_part q get') (sees_to b (spot_at p 0 s.start) _ _ (λ j h. (λ same. h, λ lt. absurd (omega (arith, lt, last)))) sees),
      )
          (λ j h. seq_last (rules_of t) (words_of t) t.reading.goes_on t.rule s right_spot of.good.linked ps e p j get last (right j h))
        where
          sees_to : (b : Board) (x : Spot) (P Q : ℕ → Type 0) → ((j : ℕ) → P j → Q j) → Sees b at x P → Sees b at x Q
          sees_to b x P Q f h = (h.0, h.1, h.2, λ j e. f j (h.3 j e))

      pub part_on : (one two : Board) (ends more : Places) → s.step + 1 < length ps → Sees one at (spot_at p 0 s.start) (Has ends) →
          ((j : ℕ) → Has ends j → RightEnd t (spot_at p 0 s.start) j) → Went t one two →
          ((j : ℕ) → s.start ≤ j → Has ends j → Sees two at (spot_at (node_of s) (s.step + 1) j) (Has more)) →
          ((k : ℕ) → Has more k → (j : ℕ) × (s.start ≤ j) × Has ends j × RightEnd t (spot_at (node_of s) (s.step + 1) j) k) → Answer t two at s more
      part_on one two ends more lt sees right went later rights = answer_of t two at s (node.Seq ps) more e (
        λ same. absurd (omega (arith, same, lt)),
        λ q get'. subst (λ (x : NodeIx). Sees two at (spot_at x 0 s.start) (λ j. (s.step + 1 ≡ length ps → Has more j) × (s.step + 1 < length ps → Sees two at (spot_at (node_of s) (s.step + 1) j) (Has more))))
            (same_part q get') (sees_stays one two at (grows_stays one two at went.grows) (spot_at p 0 s.start) _ _
            (λ j h. (λ same. absurd (omega (arith, same, lt)), λ lt. later j (from j h) h)) sees),
      )
          (λ k h. (let r = rights k h in seq_on (rules_of t) (words_of t) t.reading.goes_on t.rule s right_spot of.good.linked ps e p r.0 k get (right r.0 r.2) r.3))
        where
          from : (j : ℕ) → Has ends j → s.start ≤ j
          from j h = (leads_place (rules_of t) (words_of t) t.reading.goes_on t.rule p s.start j
              (first_leads (rules_of t) (words_of t) t.reading.goes_on t.rule p s.start j part_spot (right j h))).0

  module _ (ps : List NodeIx) (e : node_at (rules_of t) (node_of s) ≡ Some (node.Alt ps)) where
    pub alt_done : (b : Board) (ends : Places) → length ps ≤ s.step → ends ≡ record { 0 = 0 } → Answer t b at s ends
    alt_done b ends le none = answer_of t b at s (node.Alt ps) ends e
        (λ p get. absurd (omega (arith, le, slice_get_within ps s.step p get))) (λ j h. absurd (none_has ends j none h))

    pub alternative_next : RightSpot t (spot_at (node_of s) (s.step + 1) s.start)
    alternative_next = alt_next (rules_of t) (words_of t) t.reading.goes_on t.rule s right_spot of.good.linked ps e

    module _ (p : NodeIx) (get : slice_get ps s.step ≡ Some p) where
      pub alternative_spot : RightSpot t (spot_at p 0 s.start)
      alternative_spot = alt_first (rules_of t) (words_of t) t.reading.goes_on t.rule s right_spot of.good.linked ps e p get

      pub alternative_on : (one two : Board) (ends more all : Places) → Sees one at (spot_at p 0 s.start) (Has ends) →
          ((j : ℕ) → Has ends j → RightEnd t (spot_at p 0 s.start) j) → Went t one two → Sees two at (spot_at (node_of s) (s.step + 1) s.start) (Has more) →
          ((j : ℕ) → Has more j → RightEnd t (spot_at (node_of s) (s.step + 1) s.start) j) → Holds all (λ j. Has ends j ⊎ Has more j) → Answer t two at s all
      alternative_on one two ends more all sees right went others rights both = answer_of t two at s (node.Alt ps) all e
          (λ q get'. subst (λ (x : NodeIx). Sees two at (spot_at x 0 s.start) (Has all) × Sees two at (spot_at (node_of s) (s.step + 1) s.start) (Has all)) (same q get') (
            sees_stays one two at (grows_stays one two at went.grows) (spot_at p 0 s.start) _ _ (λ j h. (both j).1 (inl h)) sees,
            (others.0, others.1, others.2, λ j h. (both j).1 (inr (others.3 j h))),
          ))
          (λ j h. ⊎_elim (λ x. alt_end (rules_of t) (words_of t) t.reading.goes_on t.rule s right_spot of.good.linked ps e p j get (right j x))
          (λ x. alt_on (rules_of t) (words_of t) t.reading.goes_on t.rule s right_spot of.good.linked ps e j (rights j x)) ((both j).0 h))
        where
          same : (q : NodeIx) → slice_get ps s.step ≡ Some q → p ≡ q
          same q get' = let both : Some p ≡ Some q = sym get ∙ get' in cc
