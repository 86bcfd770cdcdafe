use Rattle.earley_chart.proofs.Bits.{shared_bits}
use Rattle.earley_chart.proofs.places.Places.shared.Goals as goal

pub returns : goal.returns
returns c = λ j. shared_bits c.args.self.0 c.args.other.0 j
