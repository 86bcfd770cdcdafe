use Rattle.import_closure.proofs.MetLemmas.{meet_next}
use Rattle.import_closure.proofs.reach.Reach.meet_all.Goals as goal

pub loop-y-preserved : goal.loop-y-preserved
loop-y-preserved c =
    meet_next c.args.row.now c.loop-y.y-index _ c.args.self.now c.loop-y.self c.meet.new.self c.loop-y-test.true c.loop-y.invariant c.in_ok-meet.ensures
