use Rattle.std.proofs.Common.{ℕ, ◌+◌, ◌<◌, ◌≤◌, ◌≡◌, List, Some, length, get_or, arith}
use Rattle.std.specs.Prelude.{slice_get}
use Rattle.std.proofs.lemmas.Option.{slice_get-get_or}
use Rattle.vg_base.specs.declared.numbers.NodeIx.{NodeIx}
use Rattle.earley_chart.proofs.Answers.{start_few, at_within, seq_done, part_spot, part_next, part_last, part_on}
use Rattle.earley_chart.proofs.Onward.{went_then}
use Rattle.earley_chart.proofs.predictor.part.Goals as goal

next_part : (ps : List NodeIx) (k : ℕ) → k < length ps → slice_get ps k ≡ Some (get_or ps k (record { 0 = 0 }))
next_part ps k lt = slice_get-get_or ps k (record { 0 = 0 }) lt

pub one-requires : goal.one-requires
one-requires c = omega (arith, start_few _ _ _ _ c.requires.of)

pub returns-then-spot-parts-clause-answer : goal.returns-then-spot-parts-clause-answer
returns-then-spot-parts-clause-answer c =
    seq_done c.args.task.now c.args.board.now c.args.at c.args.spot c.requires.of c.args.parts.now c.requires.kind c.args.board.now c.one.result c.if-spot-parts.true c.one.ensures

pub look-requires-clause-above : goal.look-requires-clause-above
look-requires-clause-above c = at_within _ _ _ _ c.requires.of

pub look-requires-clause-right : goal.look-requires-clause-right
look-requires-clause-right c =
    part_spot c.args.task.now c.args.board.now c.args.at c.args.spot c.requires.of c.args.parts.now c.requires.kind _ (next_part c.args.parts.now c.args.spot.step c.if-spot-parts.false)

pub returns-then-spot-parts-2-clause-answer : goal.returns-then-spot-parts-2-clause-answer
returns-then-spot-parts-2-clause-answer c =
    part_last c.args.task.now c.args.board.now c.args.at c.args.spot c.requires.of c.args.parts.now c.requires.kind _ (next_part c.args.parts.now c.args.spot.step c.if-spot-parts.false)
    c.look.new.board c.in_ok-ends.ends c.if-spot-parts-2.true c.in_ok-ends.ensures.sees c.in_ok-ends.ensures.right

pub onward-requires-clause-above : goal.onward-requires-clause-above
onward-requires-clause-above c = omega (arith, at_within _ _ _ _ c.requires.of, c.in_ok-ends.ensures.went.grows.more)

pub onward-requires-clause-right : goal.onward-requires-clause-right
onward-requires-clause-right c = λ j from h.
    part_next c.args.task.now c.args.board.now c.args.at c.args.spot c.requires.of c.args.parts.now c.requires.kind _ (next_part c.args.parts.now c.args.spot.step c.if-spot-parts.false)
    j (c.in_ok-ends.ensures.right j h)

pub returns-clause-went : goal.returns-clause-went
returns-clause-went c = went_then c.args.task.now c.args.board.now c.look.new.board c.onward.new.board c.in_ok-ends.ensures.went c.in_ok-later.ensures.went

pub returns-clause-answer : goal.returns-clause-answer
returns-clause-answer c =
    part_on c.args.task.now c.args.board.now c.args.at c.args.spot c.requires.of c.args.parts.now c.requires.kind _ (next_part c.args.parts.now c.args.spot.step c.if-spot-parts.false)
    c.look.new.board c.onward.new.board c.in_ok-ends.ends c.in_ok-later.later (omega (arith, c.if-spot-parts.false, c.if-spot-parts-2.false))
    c.in_ok-ends.ensures.sees c.in_ok-ends.ensures.right c.in_ok-later.ensures.went c.in_ok-later.ensures.sees c.in_ok-later.ensures.right
