use Rattle.std.proofs.Common.{◌≡◌, ◌≤◌, length}
use Rattle.std.specs.Prelude.{reverse}
use Rattle.grammar_tree.specs.ReadingOrder.{AreSubtrees}
use Rattle.earley_chart.proofs.tests.grammars.numbered.Given as goal

abbrev pub invariant-loop : goal.invariant-loop
invariant-loop l = length l.nodes ≡ l.index

-- what stands from here on is numbered
abbrev pub invariant-loop-at : goal.invariant-loop-at
invariant-loop-at l = record {
  same : length l.nodes ≡ length l.row;
  within : l.at ≤ length l.row;
  row : AreSubtrees l.nodes (reverse l.whole) l.at (length l.nodes);
}

abbrev pub decreases-loop-at : goal.decreases-loop-at
decreases-loop-at l = l.at
