use Rattle.graph_cycles.specs.code.Steps.{HasRun}
use Rattle.graph_cycles.proofs.graph.Graph.on_cycles.Given as goal

abbrev pub invariant-loop-vertex : goal.invariant-loop-vertex
invariant-loop-vertex l = HasRun l.self l.vertex l.search
