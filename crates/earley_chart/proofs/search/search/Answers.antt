use Rattle.std.proofs.Common.{ℕ, ◌≡◌, ◌<◌}
use Rattle.earley_chart.proofs.Taken.{alike_good, visited_begun, ran}
use Rattle.earley_chart.proofs.Measure.{turn_less}
use Rattle.earley_chart.proofs.search.search.Goals as goal

pub visit-requires-clause-good : goal.visit-requires-clause-good
visit-requires-clause-good c = alike_good c.args.task.now c.loop-at.board c.next.new.self c.in-Some.ensures.same c.loop-at.invariant.good c.in-Some.ensures.whole

pub loop-at-smaller : goal.loop-at-smaller
loop-at-smaller c = turn_less c.loop-at.board c.next.new.self c.visit.new.board c.in-Some.at c.in-Some.ensures.same c.in-Some.ensures.some c.in_ok-visit.ensures.good.whole c.in_ok-visit.ensures.rises

pub loop-at-preserved : goal.loop-at-preserved
loop-at-preserved c =
    visited_begun c.args.task.now c.loop-at.board c.next.new.self c.visit.new.board c.in-Some.at c.loop-at.invariant c.in-Some.ensures.same c.in-Some.ensures.some c.in_ok-visit.ensures

pub returns : goal.returns
returns c = ran c.args.task.now c.loop-at.board c.next.new.self c.loop-at.invariant c.in_default.ensures.same c.in_default.ensures.whole c.in_default.ensures.none
