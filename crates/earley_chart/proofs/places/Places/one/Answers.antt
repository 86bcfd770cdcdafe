use Rattle.std.proofs.Common.{ℕ, ◌*◌, ◌^◌, ◌%◌, ◌≡◌, sym, subst}
use Rattle.std.specs.Int.{bit_at}
use Rattle.std.proofs.lemmas.Nat.{one_shl}
use Rattle.earley_chart.proofs.Bits.{one_bit}
use Rattle.earley_chart.proofs.places.Places.one.Goals as goal

pub returns : goal.returns
returns c = λ j. subst (λ x. (bit_at x j ≡ 1 → j ≡ c.args.place) × (j ≡ c.args.place → bit_at x j ≡ 1)) (sym (one_shl c.args.place 128 c.requires)) (one_bit c.args.place j)
