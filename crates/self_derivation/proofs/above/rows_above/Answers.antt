use Rattle.self_derivation.proofs.AboveLemmas.{above_next}
use Rattle.self_derivation.proofs.above.rows_above.Goals as goal

pub loop-n-preserved : goal.loop-n-preserved
loop-n-preserved c = above_next c.args.linked.now c.loop-n.n c.loop-n.rows c.add_node.new.rows c.loop-n.invariant c.in_ok-add_node.ensures
