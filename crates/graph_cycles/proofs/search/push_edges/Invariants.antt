use Rattle.std.proofs.Common.{◌≡◌, ◌++◌, take, map}
use Rattle.graph_cycles.specs.code.Searches.{edge}
use Rattle.graph_cycles.proofs.search.push_edges.Given as goal

abbrev pub invariant-loop-to : goal.invariant-loop-to
invariant-loop-to l = l.edges.items ≡ l.initial.edges.items ++ map (edge l.from) (take l.to-index l.row)
