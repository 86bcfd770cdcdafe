-- One document of the row more isn't unseen.
use Rattle.std.proofs.Common.{◌≡◌, ◌≢◌, ap, sym, ◌∙◌, subst}
use Rattle.std.specs.Prelude.{slice_index_or}
use Rattle.std.proofs.lemmas.List.{get_or_default}
use Rattle.std.proofs.lemmas.List.Elements.{AllWithin-more, All-from_all_within, All-contains}
use Rattle.vg_base.specs.declared.numbers.DocIx.{DocIx}
use Rattle.build_core.specs.declared.event.DocState.{DocState}
use Rattle.build_core.specs.declared.event.DocState.TheVariants.{Unseen}
use Rattle.build_core.specs.Rows.{ix}
use Rattle.build_core.specs.Core.{at}
use Rattle.build_core.specs.Next.{is_unseen}
use Rattle.build_core.proofs.core_state.CoreState.imports_seen.Goals as goal

pub loop-import-preserved : goal.loop-import-preserved
loop-import-preserved c =
    let imported = c.row-imported.result.now in
    let docs = c.args.self.now.docs in
    AllWithin-more (λ (d : DocIx). at docs d.0 ≢ Unseen) imported 0 c.loop-import.import-index c.loop-import.invariant
    (λ d. subst (λ (y : DocIx). at docs y.0 ≢ Unseen) (get_or_default imported c.loop-import.import-index (ix 0) d c.loop-import-test.true) (λ u. let h = ap is_unseen u in let e = c.is_unseen.ensures in let f = c.if-is_unseen.false in cc))
