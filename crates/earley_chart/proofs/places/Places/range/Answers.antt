use Rattle.std.proofs.Common.{ℕ, ◌+◌, ◌-◌, ◌*◌, ◌^◌, ◌%◌, ◌<◌, ◌≤◌, ◌≡◌, ◌∙◌, ap, sym, subst, arith}
use Rattle.std.specs.Int.{bit_at}
use Rattle.std.proofs.lemmas.Nat.{one_shl}
use Rattle.std.proofs.Math.Pow.{pow-lt}
use Rattle.earley_chart.proofs.Bits.{range_bits}
use Rattle.earley_chart.proofs.places.Places.range.Goals as goal

pub overflow_sub-result : goal.overflow_sub-result
overflow_sub-result c =
    let lo : c.args.first < 128 = omega arith in
    let hi : c.args.last + 1 < 128 = omega arith in
    let order : c.args.first < c.args.last + 1 = omega arith in
    omega (arith, one_shl c.args.first 128 lo, one_shl (c.args.last + 1) 128 hi, pow-lt order)

pub returns : goal.returns
returns c = λ j.
    (let lo : c.args.first < 128 = omega arith in
    let hi : c.args.last + 1 < 128 = omega arith in
    let same : 2 ^ (c.args.last + 1) - 2 ^ c.args.first ≡ 1 * 2 ^ (c.args.last + 1) % 2 ^ 128 - 1 * 2 ^ c.args.first % 2 ^ 128 =
    sym (ap (λ x. x - 1 * 2 ^ c.args.first % 2 ^ 128) (one_shl (c.args.last + 1) 128 hi) ∙ ap (λ x. 2 ^ (c.args.last + 1) - x) (one_shl c.args.first 128 lo)) in
    subst (λ x. (bit_at x j ≡ 1 → (c.args.first ≤ j) × (j ≤ c.args.last)) × ((c.args.first ≤ j) × (j ≤ c.args.last) → bit_at x j ≡ 1)) same (range_bits c.args.first c.args.last j))
