use Rattle.std.proofs.Common.{◌<◌, ◌≡◌, length, refl, sym, subst}
use Rattle.std.specs.Prelude.{slice_index_or}
use Rattle.std.proofs.lemmas.Option.{slice_get_read}
use Rattle.grammar_tree.proofs.Counts.{few_parts}
use Rattle.grammar_tree.proofs.linked.Linked.node.Goals as goal

pub returns-clause-few : goal.returns-clause-few
returns-clause-few c =
    let nodes = c.self.inside.nodes in
    few_parts _ c.self.invariant c.args.at.0 c.index-as_slice-at.result
    (slice_get_read nodes (length nodes) c.args.at.0 c.index-as_slice-at.result refl (subst (λ l. c.args.at.0 < length l.nodes) (sym c.self.view_is) c.requires)
    (subst (λ xs. c.index-as_slice-at.result ≡ slice_index_or xs c.args.at.0 c.index-as_slice-at.result) c.as_slice.ensures c.index-as_slice-at.is))
