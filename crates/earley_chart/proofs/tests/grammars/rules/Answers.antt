use Rattle.std.proofs.Common.{length, refl, sym, subst}
use Rattle.std.specs.List.{All}
use Rattle.grammar_tree.specs.Links.{RefersBelow}
use Rattle.grammar_tree.specs.ReadingOrder.{AreSubtrees}
use Rattle.earley_chart.proofs.tests.grammars.rules.Goals as goal

pub new-requires : goal.new-requires
new-requires c =
    let nodes = c.in_ok-nodes.nodes in
    c.reading_order_links.ensures (record { nodes = nodes; rules = c.in_ok-rules.rules }) c.in_ok-nodes.ensures.few
    (subst (λ count. All (RefersBelow count) nodes) c.len.ensures
    (subst (λ xs. All (RefersBelow c.len.result) xs) c.as_slice.ensures (c.if-not-refer_below.ensures refl)))
    (subst (λ bodies. AreSubtrees nodes bodies 0 (length nodes)) (sym c.in_ok-rules.ensures) c.in_ok-nodes.ensures.order)
