use Rattle.std.proofs.Common.{arith, ◌≡◌, ◌↔◌, true, Some, length, sym, subst}
use Rattle.std.specs.Prelude.{slice_get}
use Rattle.graph_cycles.specs.Graphs.{IsOnCycle}
use Rattle.graph_cycles.specs.code.Steps.{HasRun}
use Rattle.graph_cycles.proofs.Ends.{ended}
use Rattle.graph_cycles.proofs.graph.Graph.on_cycles.Goals as goal

pub returns-clause-exact : goal.returns-clause-exact
returns-clause-exact c =
    let all : c.loop-vertex.vertex ≡ length c.args.self.now = omega (arith, c.loop-vertex-test.false, c.loop-vertex.auto.vertex-end, c.vertices-vertex-end.ensures.count) in
    let run = subst (λ n. HasRun c.args.self.now n c.loop-vertex.search) all c.loop-vertex.invariant in
    λ x. subst (λ l. (slice_get l x ≡ Some true) ↔ IsOnCycle c.args.self.now x) (sym c.into_marks-marks.ensures) (ended c.args.self.now c.loop-vertex.search run x)
