use Rattle.std.proofs.Common.{refl}
use Rattle.std.proofs.lemmas.Nat.{or_lt}
use Rattle.std.proofs.Math.Facts.{Fits-lt-pow}
use Rattle.earley_chart.proofs.places.both.Goals as goal

pub returns : goal.returns
returns c = record { value = refl; small = or_lt 128 c.args.mine c.args.others (Fits-lt-pow c.ranges.mine) (Fits-lt-pow c.ranges.others) }
