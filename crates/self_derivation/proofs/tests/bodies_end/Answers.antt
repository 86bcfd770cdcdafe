use Rattle.std.proofs.Common.{sym, subst, map, take}
use Rattle.grammar_tree.specs.ReadingOrder.{AreSubtrees}
use Rattle.self_derivation.proofs.RowLemmas.{no_row, row_next}
use Rattle.self_derivation.proofs.tests.bodies_end.Goals as goal

pub loop-rule-init : goal.loop-rule-init
loop-rule-init c = no_row c.args.nodes.now 0

pub loop-rule-preserved : goal.loop-rule-preserved
loop-rule-preserved c =
    row_next (λ r. r.body) c.args.rules.now c.loop-rule.rule-index c.rule-item.result (c.loop-rule-test.true, c.rule-item.is)
    (subst (λ k. AreSubtrees c.args.nodes.now (map (λ r. r.body) (take c.loop-rule.rule-index c.args.rules.now)) 0 k) (sym c.if-rule-end.false) c.loop-rule.invariant) c.in_ok-end.ensures
