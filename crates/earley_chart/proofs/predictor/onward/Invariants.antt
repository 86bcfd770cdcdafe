use Rattle.earley_chart.proofs.Onward.{SoFar}
use Rattle.earley_chart.proofs.predictor.onward.Given as goal

abbrev pub invariant-loop-place : goal.invariant-loop-place
invariant-loop-place l = SoFar l.task l.initial.board l.above l.next l.places l.board l.ends l.place
