use Rattle.std.proofs.Common.{◌<◌, ◌∙◌, ◌++◌, ◌∷◌, [], length, ap, sym, subst}
use Rattle.std.specs.Prelude.{slice_set}
use Rattle.std.proofs.lemmas.List.{get_or_default}
use Rattle.graph_cycles.specs.Graphs.{Rows, IsWithin}
use Rattle.graph_cycles.proofs.Ends.{leads_within}
use Rattle.graph_cycles.proofs.graph.Graph.lead.Goals as goal

pub invariant_of-self-2 : goal.invariant_of-self-2
invariant_of-self-2 c =
    let rows = c.self.inside.rows.items in
    let from = subst (λ (r : Rows). c.args.from < length r) (sym c.self.view_is) c.requires.from in
    let to = subst (λ (r : Rows). c.args.to < length r) (sym c.self.view_is) c.requires.to in
    let row = c.index_mut.ensures.value ∙ get_or_default rows c.args.from c.index_mut.result.now [] from in
    subst (λ row. IsWithin (slice_set rows c.args.from row)) (sym (c.in_ok-push.ensures.ok ∙ ap (λ l. l ++ c.args.to ∷ []) row)) (leads_within rows c.args.from c.args.to c.self.invariant from to)
