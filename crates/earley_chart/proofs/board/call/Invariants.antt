use Rattle.std.proofs.Common.{ℕ, ◌<◌, ◌≡◌, ◌⊎◌, get_or}
use Rattle.std.specs.Prelude.{nat_eq}
use Rattle.std.specs.List.{Contains, IsDistinct}
use Rattle.earley_chart.proofs.board.call.Given as goal

abbrev pub invariant-loop-above : goal.invariant-loop-above
invariant-loop-above l = record {
  all : (at k : ℕ) → k < l.above-index → get_or l.waiting k at ≡ at → Contains l.again.keys at;
  kept : (at : ℕ) → Contains l.initial.again.keys at → Contains l.again.keys at;
  from : (at : ℕ) → Contains l.again.keys at → Contains l.initial.again.keys at ⊎ Contains l.waiting at;
  distinct : IsDistinct nat_eq l.initial.again.keys → IsDistinct nat_eq l.again.keys;
}
