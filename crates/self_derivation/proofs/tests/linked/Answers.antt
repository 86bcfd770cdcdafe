use Rattle.std.proofs.Common.{◌≤◌, ◌^◌, length, map, subst, ◌∙◌, arith}
use Rattle.std.specs.List.{All}
use Rattle.grammar_tree.specs.Links.{RefersBelow}
use Rattle.grammar_tree.specs.ReadingOrder.{AreSubtrees}
use Rattle.self_derivation.proofs.tests.linked.Goals as goal

pub new-requires : goal.new-requires
new-requires c =
    let few : length c.args.nodes ≤ 2 ^ 32 = omega (arith, c.if-count.false, c.len-count.ensures) in
    let refers =
    subst (λ k. All (RefersBelow k) c.args.nodes) c.len.ensures (subst (λ ns. All (RefersBelow c.len.result) ns) c.as_slice.ensures c.if-not-refer_below.ensures) in
    let rules = subst (λ rs. AreSubtrees c.as_slice-2.result.now (map (λ r. r.body) rs) 0 c.in-Some.end) c.as_slice-3.ensures c.in-Some.ensures in
    let nodes = subst (λ ns. AreSubtrees ns (map (λ r. r.body) c.args.rules) 0 c.in-Some.end) c.as_slice-2.ensures rules in
    let row = subst (λ k. AreSubtrees c.args.nodes (map (λ r. r.body) c.args.rules) 0 k) (c.if-end-count.false ∙ c.len-count.ensures) nodes in
    c.reading_order_links.ensures (record { nodes = c.args.nodes; rules = c.args.rules }) few refers row
