use Rattle.std.proofs.Common.{ℕ, ◌≡◌, ◌≤◌, ◌+◌, sym, ◌∙◌, subst, true≢false, arith}
use Rattle.earley_chart.specs.declared.board.Board.{Board}
use Rattle.earley_chart.specs.declared.places.Places.{Places}
use Rattle.earley_chart.proofs.Onward.{SoFar, skipped, looked}
use Rattle.earley_chart.proofs.predictor.onward.Goals as goal
use Rattle.earley_chart.proofs.predictor.onward.Goals.{then-has+in_ok-look, else-has}

pub loop-place-preserved : goal.loop-place-preserved
loop-place-preserved c =
    let Far : Board → Places → ℕ → Type 0 = SoFar c.args.task.now c.args.board.now c.args.above c.args.next c.args.places in
    elim c.if-has.branch [
      | then-has+in_ok-look w ↦
          subst (λ (b : Board). Far b c.if-has.ends (c.loop-place.place + 1)) (sym w.board-is)
          (subst (λ (e : Places). Far w.look.new.board e (c.loop-place.place + 1)) (sym w.ends-is)
          (looked c.args.task.now c.args.board.now c.args.above c.args.next c.args.places c.loop-place.board w.look.new.board c.loop-place.ends w.in_ok-look.field-0 w.with-ends.result
          c.loop-place.place c.loop-place.invariant (record {
            from = c.loop-place.auto.place;
            has = c.has.ensures.0 w.if-has.true;
            went = w.in_ok-look.ensures.went;
            sees = w.in_ok-look.ensures.sees;
            right = w.in_ok-look.ensures.right;
            both = w.with-ends.ensures.both;
          })))
      | else-has w ↦
          subst (λ (b : Board). Far b c.if-has.ends (c.loop-place.place + 1)) (sym w.board-is)
          (subst (λ (e : Places). Far c.loop-place.board e (c.loop-place.place + 1)) (sym w.ends-is)
          (skipped c.args.task.now c.args.board.now c.args.above c.args.next c.args.places c.loop-place.board c.loop-place.ends c.loop-place.place c.loop-place.invariant
          (λ h. true≢false (sym (c.has.ensures.1 h) ∙ w.if-has.false))))
    ]
