use Rattle.std.proofs.Common.{ℕ, ◌<◌, ◌≤◌, Some, length, sym, ap, subst, ◌∙◌, arith}
use Rattle.std.proofs.lemmas.Iterator.Adapters.{YieldsList-from_vec}
use Rattle.std.proofs.lemmas.Iterator.Consumers.{YieldsList-from_enumerate, YieldsList-turn, YieldsList-end}
use Rattle.std.proofs.lemmas.List.{length_push}
use Rattle.std.proofs.lemmas.List.FromFn.{length-enumerate_from}
use Rattle.linker.specs.declared.documents.Whole.{Whole}
use Rattle.linker.proofs.WholeDocuments.{DocumentsSoFar, no_documents_so_far, next_document, documents_are_whole, turned}
use Rattle.linker.proofs.documents.lay_documents.Goals as goal

pub loop-place-init : goal.loop-place-init
loop-place-init c = no_documents_so_far c.args.library.now.set.now c.args.docs.items _ c.new-3.ensures

pub lay_reading-requires-clause-resolvable : goal.lay_reading-requires-clause-resolvable
lay_reading-requires-clause-resolvable c =
    let at = turned c.args.docs.items (length c.loop-place.yielded) (c.in-Some.place, c.in-Some.reading) (
    YieldsList-turn (YieldsList-from_enumerate {s = c.into_iter-place-iterator.result} (YieldsList-from_vec c.args.docs.items (cc) (cc c.args.docs.ok.0)) (cc)) c.loop-place.yielded c.loop-place.place-iterator c.loop-place.yielded_by c.next.result c.next.new.self (c.in-Some.place, c.in-Some.reading) c.in-Some.is c.next.ensures.steps) in
    λ doc is. c.requires.resolvable (length c.loop-place.yielded) doc (at.2 ∙ ap Some is)

pub loop-place-preserved : goal.loop-place-preserved
loop-place-preserved c =
    let at = turned c.args.docs.items (length c.loop-place.yielded) (c.in-Some.place, c.in-Some.reading) (
    YieldsList-turn (YieldsList-from_enumerate {s = c.into_iter-place-iterator.result} (YieldsList-from_vec c.args.docs.items (cc) (cc c.args.docs.ok.0)) (cc)) c.loop-place.yielded c.loop-place.place-iterator c.loop-place.yielded_by c.next.result c.next.new.self (c.in-Some.place, c.in-Some.reading) c.in-Some.is c.next.ensures.steps) in
    let lt : length c.loop-place.yielded < length c.args.library.now.set.now = omega (arith, at.0, c.requires.sized) in
    let start : Whole = record { laying = record { nodes = c.new.result; faults = c.args.faults }; rules = c.new-2.result; docs = c.new-3.result; defined = c.new-4.result } in
    let more = next_document c.in-Some.place c.in-Some.reading c.loop-place.invariant (lt, at.1, at.2)
    (λ staged is_read is_staged. c.in_ok-lay_reading.ensures c.args.docs.items staged c.requires.tables is_read is_staged) in
    subst (λ (k : ℕ). DocumentsSoFar c.args.library.now.set.now c.args.docs.items k start c.lay_reading.new.whole) (sym (length_push c.loop-place.yielded (c.in-Some.place, c.in-Some.reading))) more

pub returns : goal.returns
returns c =
    let end = YieldsList-end (YieldsList-from_enumerate {s = c.into_iter-place-iterator.result} (YieldsList-from_vec c.args.docs.items (cc) (cc c.args.docs.ok.0)) (cc)) c.loop-place.yielded c.loop-place.place-iterator c.loop-place.yielded_by c.next.result c.next.new.self c.in-None.is c.next.ensures.steps in
    let le : length c.args.library.now.set.now ≤ length c.loop-place.yielded = omega (arith, end.1, length-enumerate_from 0 c.args.docs.items, c.requires.sized) in
    documents_are_whole c.args.library.now.set.now c.args.docs.items c.loop-place.invariant le
    (record { nodes = c.new.ensures.items; rules = c.new-2.ensures; docs = c.new-3.ensures; defined = c.new-4.ensures.items })
