use Rattle.std.proofs.Common.{eq-eqb, eqb-true}
use Rattle.std.proofs.Math.Facts.{Fits-lt-pow}
use Rattle.earley_chart.proofs.Bits.{no_bits, some_bit}
use Rattle.earley_chart.proofs.places.is_zero.Goals as goal

pub returns : goal.returns
returns c = record {
  none = λ h j bit. no_bits c.args.bits j (eqb-true _ _ h) bit;
  some = λ ne. some_bit c.args.bits (Fits-lt-pow c.ranges.bits) (λ e. ne (eq-eqb _ _ e));
}
