use Rattle.self_derivation.proofs.SearchLemmas.{counted_next}
use Rattle.self_derivation.proofs.empty.Search.count_each.Goals as goal

pub loop-n-preserved : goal.loop-n-preserved
loop-n-preserved c = counted_next c.args.nodes.now c.loop-n.n-index 0 c.args.self.now c.loop-n.self c.count.new.self c.loop-n-test.true c.loop-n.invariant c.in_ok-count.ensures
