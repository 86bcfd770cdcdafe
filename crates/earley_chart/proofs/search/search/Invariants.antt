use Rattle.std.proofs.Common.{ℕ}
use Rattle.earley_chart.specs.code.Sound.{Begun}
use Rattle.earley_chart.proofs.Measure.{left}
use Rattle.earley_chart.proofs.search.search.Given as goal

abbrev pub invariant-loop-at : goal.invariant-loop-at
invariant-loop-at l = Begun l.task l.board

abbrev pub decreases-loop-at : goal.decreases-loop-at
decreases-loop-at l = left l.board
