use Rattle.std.proofs.Common.{length}
use Rattle.graph_cycles.specs.code.Steps.{Joining}
use Rattle.graph_cycles.proofs.search.Search.join.Given as goal

abbrev pub invariant-loop-group : goal.invariant-loop-group
invariant-loop-group l = Joining l.place l.initial.self l.self

abbrev pub decreases-loop-group : goal.decreases-loop-group
decreases-loop-group l = length l.self.groups.items
