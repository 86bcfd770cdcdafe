use Rattle.std.proofs.Common.{subst, sym, take}
use Rattle.std.proofs.lemmas.List.{take_all}
use Rattle.std.proofs.lemmas.List.Elements.{All-more, All-same}
use Rattle.grammar_tree.specs.Links.{RefersBelow}
use Rattle.self_derivation.proofs.tests.refer_below.Goals as goal

pub loop-node-preserved : goal.loop-node-preserved
loop-node-preserved c =
    All-more (RefersBelow c.args.count) c.args.nodes.now c.loop-node.node-index c.node-item.result c.loop-node-test.true c.loop-node.invariant
    (subst (RefersBelow c.args.count) c.node-item.is c.if-refers_past.ensures)

pub returns : goal.returns
returns c =
    All-same (RefersBelow c.args.count) c.args.nodes.now (take c.loop-node.node-index c.args.nodes.now)
    (sym (take_all c.loop-node.node-index c.args.nodes.now c.loop-node-test.false)) c.loop-node.invariant
