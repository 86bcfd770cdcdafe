use Rattle.std.proofs.Common.{◌+◌, get_or, refl, sym, subst, map, take}
use Rattle.std.proofs.lemmas.List.{get_or_default}
use Rattle.std.proofs.lemmas.Option.{slice_get_read}
use Rattle.grammar_tree.specs.ReadingOrder.{subtree, AreSubtrees}
use Rattle.self_derivation.proofs.RowLemmas.{no_row, row_next, row_ends}
use Rattle.self_derivation.proofs.tests.+subtree_end.Goals as goal

pub loop-part-init : goal.loop-part-init
loop-part-init t c = no_row c.args.nodes.now (c.args.n.0 + 1)

pub loop-part-preserved : goal.loop-part-preserved
loop-part-preserved t c =
    let all = c.parts-all.result.now in
    let i = c.loop-part.part-index in
    let part = get_or all i (record { 0 = 0 }) in
    row_next (λ p. p) all i part (c.loop-part-test.true, get_or_default all i (record { 0 = 0 }) part c.loop-part-test.true)
    (subst (λ k. AreSubtrees c.args.nodes.now (map (λ p. p) (take i all)) (c.args.n.0 + 1) k) (sym c.if-part-end.false) c.loop-part.invariant) c.in_ok-end.ensures

pub returns : goal.returns
returns t c =
    let row = row_ends c.parts-all.result.now c.loop-part.part-index c.loop-part-test.false c.loop-part.invariant in
    let x = c.index-nodes-n.result in
    subtree x (slice_get_read c.args.nodes.now _ c.args.n.0 x refl c.if-n-nodes.false c.index-nodes-n.is)
    (subst (λ ps. AreSubtrees c.args.nodes.now ps (c.args.n.0 + 1) c.loop-part.end) c.parts-all.ensures row)
