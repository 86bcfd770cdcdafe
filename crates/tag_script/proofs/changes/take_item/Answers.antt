use Rattle.std.proofs.Common.{reverse, arith}
use Rattle.tag_script.proofs.Items.{taken_out}
use Rattle.tag_script.proofs.changes.take_item.Goals as goal

-- src/changes.rt:181:1
pub returns : goal.returns
returns c =
    let size = c.len.ensures in
    let most = c.loop-front-test.false in
    taken_out c.args.items c.loop-front.front (reverse c.loop-front.behind) c.remove-item.new.self c.args.at c.remove-item.result
    c.loop-front.invariant.1 c.loop-front.invariant.2 (omega arith) c.remove-item.ensures.item c.remove-item.ensures.rest
