use Rattle.vg_base.proofs.Firsts.{one_first}
use Rattle.vg_base.proofs.laws.one_first.Goals as goal

pub returns : goal.returns
returns g c = one_first g.F.Ord.cmp g.met.F.Ord.total
