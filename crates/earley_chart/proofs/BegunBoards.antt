-- A board that has the rule's body alone.
use Rattle.std.proofs.Common.{ℕ, ◌+◌, ◌<◌, ◌≤◌, ◌≡◌, ◌⊎◌, inl, inr, Some, length, get_or, refl, sym, ap, ◌∙◌, subst, ⊎_elim, arith}
use Rattle.std.specs.Prelude.{slice_get}
use Rattle.std.proofs.lemmas.Option.{slice_get_within}
use Rattle.grammar_tree.specs.declared.linked.LinkedRule.{LinkedRule}
use Rattle.grammar_tree.specs.Links.{IsLinked, rule_at}
use Rattle.earley_chart.specs.declared.board.Spot.{Spot}
use Rattle.earley_chart.specs.declared.board.Board.{Board}
use Rattle.earley_chart.specs.declared.reading.Task.{Task}
use Rattle.earley_chart.specs.code.Steps.{at_body}
use Rattle.earley_chart.specs.code.Boards.{IsSpot, EndsAt, IsWhole, Grows, spot_at}
use Rattle.earley_chart.specs.code.Sound.{RightSpot, IsGood, Begun, rules_of, words_of}
use Rattle.earley_chart.proofs.KindSteps.{first_right}
use Rattle.earley_chart.proofs.Visits.{spot_there}

module _ (t : Task) (old now : Board) (rule : LinkedRule) (linked : IsLinked (rules_of t)) (few : length (words_of t) ≤ 64) (get : rule_at (rules_of t) t.rule ≡ Some rule)
    (lt : rule.body.0 < length (rules_of t).nodes) (none : length old.spots.keys ≡ 0) (whole : IsWhole now) (grows : Grows old now) where
  body : Spot
  body = spot_at rule.body 0 0

  right : RightSpot t (spot_at rule.body 0 0)
  right = first_right (rules_of t) (words_of t) t.reading.goes_on t.rule rule.body 0 lt (at_body rule get refl refl) (inl (omega arith))

  -- no spot was there
  nothing : (at : ℕ) (s : Spot) → IsSpot old at s → ⊥
  nothing at s h = omega (arith, none, slice_get_within old.spots.keys at s h)

  pub begun : IsWhole old → ((at : ℕ) × IsSpot now at (spot_at rule.body 0 0)) → ((at : ℕ) (s : Spot) → IsSpot now at s → IsSpot old at s ⊎ (s ≡ spot_at rule.body 0 0)) → Begun t now
  begun was there other = record {
    good = record {
      linked = linked;
      few = few;
      whole = whole;
      sound = record {
        spots = λ at s h. ⊎_elim (λ old. absurd (nothing at s old)) (λ same. subst (λ (x : Spot). RightSpot t x) (sym same) right) (other at s h);
        ends = λ at s j h e. (let before = grows.ends at j e in absurd (omega (arith, none, was.ends, slice_get_within old.ends.items at before.0 before.1)));
      };
    };
    first = (rule, get, first there);
    followed = λ at s x h e. inl (inl (omega (arith, grows.seen, was.seen, none)));
  }
    where
      first : ((at : ℕ) × IsSpot now at (spot_at rule.body 0 0)) → IsSpot now 0 (spot_at rule.body 0 0)
      first h =
          let lt : 0 < length now.spots.keys = omega (arith, slice_get_within now.spots.keys h.0 (spot_at rule.body 0 0) h.1) in
          let one = spot_there now 0 (spot_at rule.body 0 0) lt in
          ⊎_elim (λ old. absurd (nothing 0 _ old)) (λ same. subst (λ (x : Spot). IsSpot now 0 x) same one) (other 0 (get_or now.spots.keys 0 (spot_at rule.body 0 0)) one)
