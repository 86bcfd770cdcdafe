use Rattle.std.proofs.Common.{ℕ, ◌+◌, ◌<◌, ◌≤◌, ◌≡◌, List, Some, length, get_or, arith}
use Rattle.std.specs.Prelude.{slice_get}
use Rattle.std.proofs.lemmas.Option.{slice_get-get_or}
use Rattle.vg_base.specs.declared.numbers.NodeIx.{NodeIx}
use Rattle.earley_chart.proofs.Answers.{at_within, alt_done, alternative_spot, alternative_next, alternative_on}
use Rattle.earley_chart.proofs.Onward.{went_then}
use Rattle.earley_chart.proofs.predictor.alternative.Goals as goal

next_part : (ps : List NodeIx) (k : ℕ) → k < length ps → slice_get ps k ≡ Some (get_or ps k (record { 0 = 0 }))
next_part ps k lt = slice_get-get_or ps k (record { 0 = 0 }) lt

pub look-requires-clause-right : goal.look-requires-clause-right
look-requires-clause-right c =
    alternative_spot c.args.task.now c.args.board.now c.args.at c.args.spot c.requires.of c.args.parts.now c.requires.kind _ (next_part c.args.parts.now c.args.spot.step c.if-spot-parts.false)

pub look-requires-2-clause-above : goal.look-requires-2-clause-above
look-requires-2-clause-above c = omega (arith, at_within _ _ _ _ c.requires.of, c.in_ok-ends.ensures.went.grows.more)

pub look-requires-2-clause-right : goal.look-requires-2-clause-right
look-requires-2-clause-right c = alternative_next c.args.task.now c.args.board.now c.args.at c.args.spot c.requires.of c.args.parts.now c.requires.kind

pub returns-clause-went : goal.returns-clause-went
returns-clause-went c = went_then c.args.task.now c.args.board.now c.look.new.board c.look-2.new.board c.in_ok-ends.ensures.went c.in_ok-others.ensures.went

pub returns-clause-answer : goal.returns-clause-answer
returns-clause-answer c =
    alternative_on c.args.task.now c.args.board.now c.args.at c.args.spot c.requires.of c.args.parts.now c.requires.kind _ (next_part c.args.parts.now c.args.spot.step c.if-spot-parts.false)
    c.look.new.board c.look-2.new.board c.in_ok-ends.ends c.in_ok-others.others c.with.result c.in_ok-ends.ensures.sees c.in_ok-ends.ensures.right
    c.in_ok-others.ensures.went c.in_ok-others.ensures.sees c.in_ok-others.ensures.right c.with.ensures.both
