use Rattle.std.proofs.Common.{arith, ◌≡◌, ◌↔◌, Bool, List, true, sym, subst}
use Rattle.std.specs.Prelude.{Contains}
use Rattle.graph_cycles.specs.Graphs.{LeadsTo}
use Rattle.graph_cycles.specs.code.Searches.{AreLoops}
use Rattle.graph_cycles.proofs.Ends.{loops_more, all_loops}
use Rattle.graph_cycles.proofs.search.loops.Goals as goal

pub loop-vertex-preserved : goal.loop-vertex-preserved
loop-vertex-preserved c =
    let here : (c.has.result ≡ true) ↔ LeadsTo c.args.graph.now c.loop-vertex.vertex c.loop-vertex.vertex =
    subst (λ row. (c.has.result ≡ true) ↔ Contains row c.loop-vertex.vertex) c.row.ensures.row c.has.ensures in
    record {
      sized = omega (arith, c.loop-vertex.invariant.sized, c.in_ok-push.ensures.len);
      loops = subst (AreLoops c.args.graph.now) (sym {A = List Bool} c.in_ok-push.ensures.items)
          (loops_more c.args.graph.now c.loop-vertex.marks.items c.has.result c.loop-vertex.invariant.loops
          (subst (λ n. (c.has.result ≡ true) ↔ LeadsTo c.args.graph.now n n) (sym c.loop-vertex.invariant.sized) here));
    }

pub returns-clause-exact : goal.returns-clause-exact
returns-clause-exact c =
    all_loops c.args.graph.now c.loop-vertex.marks.items
    (omega (arith, c.loop-vertex.invariant.sized, c.loop-vertex-test.false, c.loop-vertex.auto.vertex-end, c.vertices-vertex-end.ensures.count)) c.loop-vertex.invariant.loops
