use Rattle.std.proofs.Common.{sym, ◌∙◌, subst}
use Rattle.std.specs.Prelude.{OnOk}
use Rattle.self_derivation.specs.code.Above.{Added}
use Rattle.self_derivation.proofs.AboveLemmas.{below_within, below_is}
use Rattle.self_derivation.proofs.above.add_node.Goals as goal

pub add_to_each-requires : goal.add_to_each-requires
add_to_each-requires c =
    let within = below_within c.args.linked.now c.requires.linked c.args.n.0 c.node-node.result.now c.node-node.ensures.value in
    rw (c.requires.sized, c.below.ensures) within

pub returns : goal.returns
returns c =
    subst (λ ps. OnOk c.add_to_each.result (Added c.args.n.0 ps c.args.rows.now c.add_to_each.new.rows))
    (c.below.ensures ∙ sym (below_is c.args.linked.now c.args.n.0 c.node-node.result.now c.node-node.ensures.value)) c.add_to_each.ensures
