use Rattle.std.proofs.Common.{ℕ, ◌≡◌, ◌≤◌, ◌⊎◌, sym, subst}
use Rattle.std.specs.Int.{bit_at}
use Rattle.std.proofs.lemmas.Nat.{le_or_l}
use Rattle.earley_chart.proofs.Bits.{both_bits}
use Rattle.earley_chart.proofs.places.Places.with.Goals as goal

pub returns : goal.returns
returns c = record {
  both = λ j. subst (λ x. (bit_at x j ≡ 1 → (bit_at c.args.self.0 j ≡ 1) ⊎ (bit_at c.args.other.0 j ≡ 1)) × ((bit_at c.args.self.0 j ≡ 1) ⊎ (bit_at c.args.other.0 j ≡ 1) → bit_at x j ≡ 1))
      (sym c.both.ensures.value) (both_bits c.args.self.0 c.args.other.0 j);
  rises = subst (λ x. c.args.self.0 ≤ x) (sym c.both.ensures.value) (le_or_l c.args.self.0 c.args.other.0);
  small = c.both.ensures.small;
}
