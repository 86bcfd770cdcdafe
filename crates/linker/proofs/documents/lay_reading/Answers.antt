use Rattle.std.proofs.Common.{◌≡◌, List, [], ◌∷◌, Option, Some, get_or, sym, ap, subst, ◌∙◌}
use Rattle.std.proofs.lemmas.Option.{get_or_from_slice_get}
use Rattle.grammar_tree.specs.declared.doc_set.DocText.{DocText}
use Rattle.grammar_tree.specs.declared.document.ReadDoc.{ReadDoc}
use Rattle.vg_base.specs.declared.doc_fault.DocFault.{DocFault}
use Rattle.linker.specs.declared.documents.Whole.{Whole}
use Rattle.linker.specs.declared.faults.Faults.{Faults}
use Rattle.linker.specs.declared.set_fault.FaultKind.TheVariants as kind
use Rattle.linker.specs.SetFaults.{fault_at}
use Rattle.linker.specs.code.Wholes.{LaysReading}
use Rattle.linker.proofs.LayingLists.{Tells}
use Rattle.linker.proofs.WholeSums.{grows_none}
use Rattle.linker.proofs.WholeDocuments.{grows_fault}
use Rattle.linker.proofs.documents.lay_reading.Goals as goal

pub lay_document-requires-clause-resolvable : goal.lay_document-requires-clause-resolvable
lay_document-requires-clause-resolvable c = c.requires.resolvable c.in-Good.doc (c.in-Some.is ∙ ap Some c.in-Good.is)

pub returns-in_default : goal.returns-in_default
returns-in_default c =
    subst (λ (reading : Option ReadDoc). LaysReading c.args.library.now c.args.place reading c.args.whole.now c.args.whole.now) (sym c.in_default.is)
    (λ readings staged tables is_read is_staged. grows_none c.args.library.now.set.now readings c.args.whole.now)

pub returns-in_ok-lay_document-in-Good : goal.returns-in_ok-lay_document-in-Good
returns-in_ok-lay_document-in-Good c =
    subst (λ (reading : Option ReadDoc). LaysReading c.args.library.now c.args.place reading c.args.whole.now c.lay_document.new.whole) (sym (c.in-Some.is ∙ ap Some c.in-Good.is))
    c.in_ok-lay_document-in-Good.ensures

pub returns-in_ok-tell-in-Bad : goal.returns-in_ok-tell-in-Bad
returns-in_ok-tell-in-Bad c =
    let set : List DocText = c.args.library.now.set.now in
    let old : Whole = c.args.whole.now in
    let faults : Faults = c.tell.new.self in
    let one : DocText = get_or c.docs.result.now c.args.place c.index-docs-place.result in
    let fault : DocFault = c.in-Bad.fault in
    subst (λ (reading : Option ReadDoc). LaysReading c.args.library.now c.args.place reading old (record old { laying = record { nodes = old.laying.nodes; faults = faults } }))
    (sym (c.in-Some.is ∙ ap Some c.in-Bad.is))
    (λ readings staged tables is_read is_staged.
    let here : one ≡ staged =
    ap (λ (docs : List DocText). get_or docs c.args.place c.index-docs-place.result) c.docs.ensures.same
    ∙ get_or_from_slice_get set c.args.place staged c.index-docs-place.result is_staged in
    grows_fault set readings c.args.place staged fault old faults
    (subst (λ (d : DocText). Tells (fault_at d.key fault.place (kind.Doc fault.kind) ∷ []) old.laying.faults faults) here c.in_ok-tell-in-Bad.ensures))
