use Rattle.std.proofs.Common.{ℕ, ◌<◌}
use Rattle.earley_chart.specs.Places.{Has}
use Rattle.parse_choice.specs.code.Ways.{EndsIn}
use Rattle.parse_choice.proofs.accepted.before.Given as goal

abbrev pub invariant-loop-place : goal.invariant-loop-place
invariant-loop-place l = record {
  from : (i : ℕ) → Has l.all i → EndsIn l.chart l.node l.ends l.with_word i;
  has : (i : ℕ) → i < l.place → EndsIn l.chart l.node l.ends l.with_word i → Has l.all i;
}
