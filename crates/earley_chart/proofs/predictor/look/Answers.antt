use Rattle.earley_chart.proofs.Visits.{good_more}
use Rattle.earley_chart.proofs.predictor.look.Goals as goal

pub returns-clause-went : goal.returns-clause-went
returns-clause-went c = record {
  good = good_more c.args.task.now c.args.board.now c.look.new.self c.args.spot c.requires.good c.requires.right c.in_ok-ends.ensures.whole c.in_ok-ends.ensures.grows c.in_ok-ends.ensures.other;
  grows = c.in_ok-ends.ensures.grows;
}

pub returns-clause-right : goal.returns-clause-right
returns-clause-right c = λ j h.
    (let good = good_more c.args.task.now c.args.board.now c.look.new.self c.args.spot c.requires.good c.requires.right c.in_ok-ends.ensures.whole c.in_ok-ends.ensures.grows c.in_ok-ends.ensures.other in
    let shows = c.in_ok-ends.ensures.sees in
    good.sound.ends shows.0 c.args.spot j shows.1 (shows.4 j h))
