use Rattle.std.proofs.Common.{◌≡◌, ◌++◌, map, length}
use Rattle.std.specs.Prelude.{reverse}
use Rattle.earley_chart.proofs.tests.grammars.rules_of.Given as goal

abbrev pub invariant-loop-body : goal.invariant-loop-body
invariant-loop-body l = reverse l.fn.bodies ≡ map (λ r. r.body) l.rules ++ reverse l.bodies

abbrev pub decreases-loop-body : goal.decreases-loop-body
decreases-loop-body l = length l.bodies
