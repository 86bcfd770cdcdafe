use Rattle.std.proofs.Common.{◌≡◌, ◌+◌, ◌==◌, ◌∷◌, ◌++◌, [], false, length, replicate, rules, arith, sym, ap, ◌∙◌, subst}
use Rattle.self_derivation.specs.code.Nodes.{needs}
use Rattle.self_derivation.specs.code.Search.{IsSearch}
use Rattle.std.proofs.lemmas.Bool.{eq-eqb, ne_eqb}
use Rattle.self_derivation.proofs.Tallies.{pushed_if, not_pushed_if}
use Rattle.self_derivation.proofs.OpenLemmas.{IsOpen, open_none, open_next, open_all}
use Rattle.self_derivation.proofs.empty.Search.open.Goals as goal
use Rattle.self_derivation.proofs.empty.Search.open.Goals.{then-needed-eq0+in_ok-push-2, else-needed-eq0}

pub loop-n-init : goal.loop-n-init
loop-n-init c = rw (c.new-missing.ensures.items, c.new-left.ensures.items) (open_none c.args.linked.now)

pub loop-n-preserved : goal.loop-n-preserved
loop-n-preserved c =
    let n = c.loop-n.n in
    let x = c.node.result.now in
    let same = c.needs-needed.ensures in
    let missing = c.in_ok-push.ensures.items ∙ ap (λ k. c.loop-n.missing.items ++ k ∷ []) same in
    subst (λ ms. IsOpen c.args.linked.now (n + 1) ms c.if-needed-eq0.left.items) (sym missing)
    (open_next c.args.linked.now n x c.node.ensures.value c.loop-n.invariant
    (elim c.if-needed-eq0.branch [
      | then-needed-eq0+in_ok-push-2 w ↦ pushed_if n (needs x == 0) c.loop-n.left.items _ (eq-eqb (needs x) 0 (sym same ∙ w.if-needed-eq0.true)) (ap (λ v. v.items) w.left-is ∙ w.in_ok-push-2.ensures.items)
      | else-needed-eq0 w ↦ not_pushed_if n (needs x == 0) c.loop-n.left.items _ (ne_eqb (needs x) 0 (λ e. w.if-needed-eq0.false (same ∙ e))) (ap (λ v. v.items) w.left-is)
    ]))

pub returns : goal.returns
returns c =
    let all : c.loop-n.n ≡ length c.args.linked.now.nodes = omega (arith, c.node_count-nodes.ensures.count) in
    let told : c.in_ok-told.told.items ≡ replicate c.node_count-nodes.result false = search rules in
    subst (λ ts. IsSearch c.args.linked.now (record { missing = c.loop-n.missing.items; told = ts; left = c.loop-n.left.items }))
    (sym (told ∙ ap (λ k. replicate k false) c.node_count-nodes.ensures.count))
    (open_all c.args.linked.now c.loop-n.missing.items c.loop-n.left.items (subst (λ k. IsOpen c.args.linked.now k c.loop-n.missing.items c.loop-n.left.items) all c.loop-n.invariant))
