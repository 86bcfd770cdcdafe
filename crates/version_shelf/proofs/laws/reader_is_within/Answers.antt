-- A reader's notes know the place that it reached, and no place past its count.
use Rattle.std.proofs.Common.{◌≡◌, ℕ, ◌+◌, ◌≤◌, sym, arith}
use Rattle.version_shelf.specs.Known.{facts, values}
use Rattle.version_shelf.proofs.Knowing.{all_pairs}
use Rattle.version_shelf.proofs.Values.{bound_values, pair_of_value}
use Rattle.version_shelf.proofs.laws.reader_is_within.Goals as goal

pub returns-clause-reached : goal.returns-clause-reached
returns-clause-reached g c = λ s r of. let same = of.number in let met = of.met in (omega arith, omega arith)

pub returns-clause-value : goal.returns-clause-value
returns-clause-value g c = λ s r of. let (a, is) = of.seen in (a.value, pair_of_value r.number (facts r.notes.items) r.last a is)

pub returns-clause-known : goal.returns-clause-known
returns-clause-known g c = λ s r of.
    let same : r.number ≡ s.number = of.number in
    all_pairs r.number (values (facts r.notes.items)) (λ (m : ℕ). (s.number ≤ m) × (m ≤ r.number + r.seat.me.0.count))
    (λ k x e. let le : k ≤ r.seat.me.0.count = bound_values (facts r.notes.items) r.seat.me.0.count of.bound k x e in (omega arith, omega arith))
