use Rattle.std.proofs.Common.{◌≡◌, length}
use Rattle.parse_choice.proofs.Going.{Going}
use Rattle.parse_choice.proofs.choose.firsts.Given as goal

abbrev pub invariant-loop : goal.invariant-loop
invariant-loop l = record {
  going : Going l.linked l.chart.rule l.words l.trees.items l.guide;
  count : length l.trees.items ≡ l.counter;
}
