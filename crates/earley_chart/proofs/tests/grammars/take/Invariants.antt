use Rattle.std.proofs.Common.{◌≡◌, ◌++◌}
use Rattle.std.specs.Prelude.{reverse}
use Rattle.earley_chart.proofs.tests.grammars.take.Given as goal

abbrev pub invariant-loop : goal.invariant-loop
invariant-loop l = reverse l.fn.whole ≡ l.parts ++ reverse l.whole
