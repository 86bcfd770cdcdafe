use Rattle.std.proofs.Common.{◌≡◌, length}
use Rattle.graph_cycles.specs.code.Searches.{AreLoops}
use Rattle.graph_cycles.proofs.search.loops.Given as goal

abbrev pub invariant-loop-vertex : goal.invariant-loop-vertex
invariant-loop-vertex l = record { sized : length l.marks.items ≡ l.vertex; loops : AreLoops l.graph l.marks.items }
