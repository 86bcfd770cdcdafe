use Rattle.std.proofs.Common.{◌∙◌, sym, ap}
use Rattle.std.specs.Prelude.{slice_get}
use Rattle.std.specs.List.{find}
use Rattle.std.proofs.lemmas.List.Folds.{find_at}
use Rattle.grammar_tree.specs.DocSets.{is_under}
use Rattle.grammar_tree.proofs.Keyed.{place}
use Rattle.grammar_tree.proofs.doc_set.DocSet.find.Goals as goal

pub returns : goal.returns
returns c =
    let key = c.args.key.now in
    let docs = c.self.inside.docs.items in
    c.at.ensures
    ∙ ap (λ xs. slice_get xs c.place_of.result) c.as_slice-docs.ensures.value
    ∙ ap (slice_get docs) (c.place_of.ensures ∙ ap (place key) c.as_slice-docs.ensures.value)
    ∙ sym (find_at (is_under key) docs)
    ∙ ap (find (is_under key)) c.self.view_is
