use Rattle.std.proofs.Common.{ℕ, ◌+◌, ◌-◌, ◌<◌, ◌≤◌, ◌≡◌, true, false, sym, ap, ◌∙◌, true≢false, subst, length, arith}
use Rattle.grammar_tree.specs.Derives.{IsAtMost}
use Rattle.earley_chart.specs.declared.places.Places.{Places}
use Rattle.earley_chart.specs.Places.{Has, Holds}
use Rattle.earley_chart.specs.code.Steps.{next_level}
use Rattle.earley_chart.specs.code.Boards.{node_of, spot_at, moved, Sees}
use Rattle.earley_chart.specs.code.Sound.{RightSpot, RightEnd}
use Rattle.earley_chart.proofs.Answers.{start_few, at_within}
use Rattle.earley_chart.proofs.TurnAnswers.{rep_done, turn_spot, turn_next, Turn, turn_on}
use Rattle.earley_chart.proofs.Onward.{went_then}
use Rattle.earley_chart.proofs.predictor.turn.Goals as goal

enough_from : (set : Places) (start least turns step : ℕ) → turns ≡ step → Holds set (λ j. (j ≡ start) × (least ≤ turns)) → Holds set (λ j. (j ≡ start) × (least ≤ step))
enough_from set start least turns step e holds = λ j. subst (λ n. (Has set j → (j ≡ start) × (least ≤ n)) × ((j ≡ start) × (least ≤ n) → Has set j)) e (holds j)

pub enough-enough-requires : goal.enough-enough-requires
enough-enough-requires c = omega (arith, start_few _ _ _ _ c.requires.of)

pub returns-then-not-allows-clause-answer : goal.returns-then-not-allows-clause-answer
returns-then-not-allows-clause-answer c =
    rep_done c.args.task.now c.args.board.now c.args.at c.args.spot c.requires.of c.args.repeat.least c.args.repeat.most c.args.repeat.inner c.requires.kind
    c.args.board.now c.enough-enough.result
    (enough_from c.enough-enough.result c.args.spot.start c.args.repeat.least c.saturating_sub-turns.result (c.args.spot.step - 1) c.saturating_sub-turns.ensures c.enough-enough.ensures)
    (λ h. true≢false (sym (c.allows.ensures.1 (subst (λ n. IsAtMost c.args.repeat.most (n + 1)) (sym c.saturating_sub-turns.ensures) h)) ∙ c.if-not-allows.true))

pub look-requires-clause-above : goal.look-requires-clause-above
look-requires-clause-above c = at_within _ _ _ _ c.requires.of

pub look-requires-clause-right : goal.look-requires-clause-right
look-requires-clause-right c =
    turn_spot c.args.task.now c.args.board.now c.args.at c.args.spot c.requires.of c.args.repeat.least c.args.repeat.most c.args.repeat.inner c.requires.kind
    (subst (λ n. IsAtMost c.args.repeat.most (n + 1)) c.saturating_sub-turns.ensures (c.allows.ensures.0 c.if-not-allows.false))

pub filled-requires : goal.filled-requires
filled-requires c = omega (arith, start_few _ _ _ _ c.requires.of)

pub overflow_add-next : goal.overflow_add-next
overflow_add-next c = omega (arith, start_few _ _ _ _ c.requires.of)

pub onward-requires-clause-above : goal.onward-requires-clause-above
onward-requires-clause-above c = omega (arith, at_within _ _ _ _ c.requires.of, c.in_ok-ends.ensures.went.grows.more)

pub onward-requires-clause-right : goal.onward-requires-clause-right
onward-requires-clause-right c = λ j from h.
    (let step : next_level c.args.repeat.least c.args.repeat.most (c.args.spot.step - 1) + 1 ≡ c.next_step.result =
    sym (c.next_step.ensures ∙ ap (λ n. next_level c.args.repeat.least c.args.repeat.most n + 1) c.saturating_sub-turns.ensures) in
    subst (λ k. RightSpot c.args.task.now (spot_at (node_of c.args.spot) k j)) step
    (turn_next c.args.task.now c.args.board.now c.args.at c.args.spot c.requires.of c.args.repeat.least c.args.repeat.most c.args.repeat.inner c.requires.kind
    (subst (λ n. IsAtMost c.args.repeat.most (n + 1)) c.saturating_sub-turns.ensures (c.allows.ensures.0 c.if-not-allows.false)) j from (c.in_ok-ends.ensures.right j h)))

pub returns-clause-went : goal.returns-clause-went
returns-clause-went c = went_then c.args.task.now c.args.board.now c.look.new.board c.onward.new.board c.in_ok-ends.ensures.went c.in_ok-later.ensures.went

pub returns-clause-answer : goal.returns-clause-answer
returns-clause-answer c =
    let hi : IsAtMost c.args.repeat.most (c.args.spot.step - 1 + 1) = subst (λ n. IsAtMost c.args.repeat.most (n + 1)) c.saturating_sub-turns.ensures (c.allows.ensures.0 c.if-not-allows.false) in
    let step : c.next_step.result ≡ next_level c.args.repeat.least c.args.repeat.most (c.args.spot.step - 1) + 1 =
    c.next_step.ensures ∙ ap (λ n. next_level c.args.repeat.least c.args.repeat.most n + 1) c.saturating_sub-turns.ensures in
    turn_on c.args.task.now c.args.board.now c.args.at c.args.spot c.requires.of c.args.repeat.least c.args.repeat.most c.args.repeat.inner c.requires.kind hi
    c.look.new.board c.onward.new.board c.in_ok-ends.ends c.with.result (record {
      enough = c.enough-enough.result;
      enough_is = enough_from c.enough-enough.result c.args.spot.start c.args.repeat.least c.saturating_sub-turns.result (c.args.spot.step - 1) c.saturating_sub-turns.ensures c.enough-enough.ensures;
      filled = c.filled.result;
      filled_is = c.filled.ensures;
      here = c.with-here.result;
      here_is = c.with-here.ensures.both;
      later = c.in_ok-later.later;
      all_is = c.with.ensures.both;
      sees = c.in_ok-ends.ensures.sees;
      inner = c.in_ok-ends.ensures.right;
      went = c.in_ok-later.ensures.went;
      sees_later = subst (λ k. (j : ℕ) → c.args.spot.start + 1 ≤ j → Has c.in_ok-ends.ends j → Sees c.onward.new.board c.args.at (spot_at (node_of c.args.spot) k j) (Has c.in_ok-later.later)) step c.in_ok-later.ensures.sees;
      rights = subst (λ k. (m : ℕ) → Has c.in_ok-later.later m → (j : ℕ) × (c.args.spot.start + 1 ≤ j) × Has c.in_ok-ends.ends j × RightEnd c.args.task.now (spot_at (node_of c.args.spot) k j) m) step c.in_ok-later.ensures.right;
    })
