use Rattle.std.proofs.Common.{[], ◌∷◌, take}
use Rattle.vg_base.proofs.Firsts.{first-one, first-take}
use Rattle.vg_base.proofs.first.first_of.Goals as goal

pub loop-fault-preserved : goal.loop-fault-preserved
loop-fault-preserved g c =
    let fault = c.fault-item.result in
    let so_far = take c.loop-fault.fault-index c.args.faults.now in
    first-take g.F.Ord.cmp g.met.F.Ord.total c.args.faults.now c.loop-fault.fault-index fault c.sooner-first.result c.loop-fault-test.true c.fault-item.is
    (c.sooner-first.ensures.joins so_far (fault ∷ []) c.loop-fault.invariant (first-one g.F.Ord.cmp g.met.F.Ord.total fault))
