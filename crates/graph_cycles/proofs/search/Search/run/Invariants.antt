use Rattle.graph_cycles.specs.code.Searches.{work}
use Rattle.graph_cycles.specs.code.Steps.{IsRun}
use Rattle.graph_cycles.proofs.search.Search.run.Given as goal

abbrev pub invariant-loop-group : goal.invariant-loop-group
invariant-loop-group l = IsRun l.graph l.root l.fn.self l.self

abbrev pub decreases-loop-group : goal.decreases-loop-group
decreases-loop-group l = work l.graph l.self
