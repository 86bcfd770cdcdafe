-- What a repeat asks was asked, and its ends are right.
use Rattle.std.proofs.Common.{Bool, true, false, ℕ, ◌+◌, ◌-◌, ◌<◌, ◌≤◌, ◌≡◌, ◌≢◌, ◌⊎◌, inl, inr, List, Option, Some, None, length, refl, sym, ap, ◌∙◌, subst, ⊎_elim, arith}
use Rattle.vg_base.specs.declared.numbers.NodeIx.{NodeIx}
use Rattle.grammar_tree.specs.declared.linked.Node.{Node}
use Rattle.grammar_tree.specs.declared.linked.Node.TheVariants as node
use Rattle.grammar_tree.specs.Links.{node_at}
use Rattle.grammar_tree.specs.Derives.{IsAtMost}
use Rattle.earley_chart.specs.declared.places.Places.{Places}
use Rattle.earley_chart.specs.declared.board.Spot.{Spot}
use Rattle.earley_chart.specs.declared.board.Board.{Board}
use Rattle.earley_chart.specs.declared.reading.Task.{Task}
use Rattle.earley_chart.specs.Places.{Has, Holds}
use Rattle.earley_chart.specs.code.Steps.{next_level}
use Rattle.earley_chart.specs.code.Boards.{node_of, spot_at, Sees}
use Rattle.earley_chart.specs.code.Sound.{rules_of, words_of, RightSpot, RightEnd, IsOf, Went, Answer}
use Rattle.earley_chart.proofs.KindSteps.{rep_first, rep_next, rep_enough, rep_filled, rep_on, first_leads, leads_place}
use Rattle.earley_chart.proofs.Visits.{grows_stays, sees_stays}
use Rattle.earley_chart.proofs.Answers.{answer_of, right_spot}

module _ (t : Task) (old : Board) (at : ℕ) (s : Spot) (of : IsOf t old at s) (least : ℕ) (most : Option ℕ) (p : NodeIx)
    (e : node_at (rules_of t) (node_of s) ≡ Some (node.Rep least most p)) where
  right : RightSpot t s
  right = right_spot t old at s of

  enough_right : (enough : Places) → Holds enough (λ j. (j ≡ s.start) × (least ≤ s.step - 1)) → (j : ℕ) → Has enough j → RightEnd t s j
  enough_right enough holds j h = subst (RightEnd t s) (sym ((holds j).0 h).0)
      (rep_enough (rules_of t) (words_of t) t.reading.goes_on t.rule s right of.good.linked least most p e ((holds j).0 h).1)

  pub rep_done : (b : Board) (enough : Places) → Holds enough (λ j. (j ≡ s.start) × (least ≤ s.step - 1)) → (IsAtMost most (s.step - 1 + 1) → ⊥) → Answer t b at s enough
  rep_done b enough holds over = answer_of t b at s (node.Rep least most p) enough e
      (λ lo. (holds s.start).1 (refl, lo), λ hi. absurd (over hi)) (enough_right enough holds)

  module _ (hi : IsAtMost most (s.step - 1 + 1)) where
    pub turn_spot : RightSpot t (spot_at p 0 s.start)
    turn_spot = rep_first (rules_of t) (words_of t) t.reading.goes_on t.rule s right of.good.linked least most p e hi

    pub turn_next : (j : ℕ) → s.start + 1 ≤ j → RightEnd t (spot_at p 0 s.start) j → RightSpot t (spot_at (node_of s) (next_level least most (s.step - 1) + 1) j)
    turn_next j from end = rep_next (rules_of t) (words_of t) t.reading.goes_on t.rule s right of.good.linked least most p e j hi (λ same. absurd (omega (arith, from, same))) end

    -- what was found of one more turn
    pub record Turn (one two : Board) (ends all : Places) : Type 0 where
      pub enough : Places
      pub enough_is : Holds enough (λ j. (j ≡ s.start) × (least ≤ s.step - 1))
      pub filled : Places
      pub filled_is : Holds filled (λ j. (j ≡ s.start) × Has ends s.start × IsAtMost most least)
      pub here : Places
      pub here_is : Holds here (λ j. Has enough j ⊎ Has filled j)
      pub later : Places
      pub all_is : Holds all (λ j. Has here j ⊎ Has later j)
      pub sees : Sees one at (spot_at p 0 s.start) (Has ends)
      pub inner : (j : ℕ) → Has ends j → RightEnd t (spot_at p 0 s.start) j
      pub went : Went t one two
      pub sees_later : (j : ℕ) → s.start + 1 ≤ j → Has ends j → Sees two at (spot_at (node_of s) (next_level least most (s.step - 1) + 1) j) (Has later)
      pub rights : (k : ℕ) → Has later k → (j : ℕ) × (s.start + 1 ≤ j) × Has ends j × RightEnd t (spot_at (node_of s) (next_level least most (s.step - 1) + 1) j) k

    pub turn_on : (one two : Board) (ends all : Places) → Turn one two ends all → Answer t two at s all
    turn_on one two ends all f = answer_of t two at s (node.Rep least most p) all e (
      λ lo. (f.all_is s.start).1 (inl ((f.here_is s.start).1 (inl ((f.enough_is s.start).1 (refl, lo))))),
      λ hi'. sees_stays one two at (grows_stays one two at f.went.grows) (spot_at p 0 s.start) _ _
          (λ j h. (
            λ ne. (let more = f.sees_later j (further j h ne) h in (more.0, more.1, more.2, λ k x. (f.all_is k).1 (inr (more.3 k x)))),
            λ same lt bound. (f.all_is j).1 (inl ((f.here_is j).1 (inr ((f.filled_is j).1 (sym same, subst (Has ends) (sym same) h, bound))))),
          )) f.sees,
    )
        (λ k h. ⊎_elim (λ x. ⊎_elim (λ y. enough_right f.enough f.enough_is k y) (λ y. fill k y) ((f.here_is k).0 x)) (λ x. on k x) ((f.all_is k).0 h))
      where
        further : (j : ℕ) → Has ends j → s.start ≢ j → s.start + 1 ≤ j
        further j h ne =
            let le = (leads_place (rules_of t) (words_of t) t.reading.goes_on t.rule p s.start j
            (first_leads (rules_of t) (words_of t) t.reading.goes_on t.rule p s.start j turn_spot (f.inner j h))).0 in
            omega (arith, le, ne)

        fill : (k : ℕ) → Has f.filled k → RightEnd t s k
        fill k h = let g = (f.filled_is k).0 h in
            subst (RightEnd t s) (sym g.0) (rep_filled (rules_of t) (words_of t) t.reading.goes_on t.rule s right of.good.linked least most p e hi g.2 (f.inner s.start g.1))

        on : (k : ℕ) → Has f.later k → RightEnd t s k
        on k h = let r = f.rights k h in
            rep_on (rules_of t) (words_of t) t.reading.goes_on t.rule s right of.good.linked least most p e r.0 k hi (λ same. absurd (omega (arith, r.1, same))) (f.inner r.0 r.2) r.3
