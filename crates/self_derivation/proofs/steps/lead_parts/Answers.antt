use Rattle.std.proofs.Common.{◌≡◌, ◌∷◌, [], take, sym, ap, ◌∙◌, subst, cond, get_or}
use Rattle.self_derivation.specs.code.Marks.{is_marked, Grown}
use Rattle.self_derivation.specs.code.Nodes.{passes_on, worded}
use Rattle.self_derivation.specs.code.Steps.{passed, vertex}
use Rattle.self_derivation.proofs.Tallies.{grown_none, grown_then}
use Rattle.self_derivation.proofs.StepLemmas.{passes, passed_more}
use Rattle.self_derivation.proofs.steps.lead_parts.Goals as goal
use Rattle.self_derivation.proofs.steps.lead_parts.Goals.{then-passes_on+in_ok-lead, else-passes_on}

pub loop-part-preserved : goal.loop-part-preserved
loop-part-preserved c =
    let i = c.loop-part.part-index in
    let all = c.parts-all.result.now in
    let p = get_or all i (record { 0 = 0 }) in
    let from = c.args.from in
    let E = is_marked c.args.empty.now in
    let x = c.args.node.now in
    let v = vertex c.args.rules p in
    let test : c.passes_on.result ≡ passes E x p =
    c.passes_on.ensures ∙ ap (λ k. passes_on x k (E p.0)) (c.worded-with_words.ensures ∙ ap (worded E) c.parts-all.ensures) in
    let one : Grown from (cond c.passes_on.result (v ∷ []) []) c.loop-part.graph c.if-passes_on.graph = elim c.if-passes_on.branch [
      | then-passes_on+in_ok-lead w ↦ subst (λ t. Grown from (cond t (v ∷ []) []) c.loop-part.graph c.if-passes_on.graph) (sym w.if-passes_on.true) (w.graph-is ∙ w.in_ok-lead.ensures.added)
      | else-passes_on w ↦ subst (λ t. Grown from (cond t (v ∷ []) []) c.loop-part.graph c.if-passes_on.graph) (sym w.if-passes_on.false) (w.graph-is ∙ grown_none from c.loop-part.graph)
    ] in
    subst (λ l. Grown from l c.args.graph.now c.if-passes_on.graph) (sym (passed_more c.args.rules E x all i (record { 0 = 0 }) c.loop-part-test.true))
    (grown_then from (passed c.args.rules E x (take i all)) (cond (passes E x p) (v ∷ []) []) c.args.graph.now c.loop-part.graph c.if-passes_on.graph c.requires.from c.loop-part.invariant
    (subst (λ t. Grown from (cond t (v ∷ []) []) c.loop-part.graph c.if-passes_on.graph) test one))
