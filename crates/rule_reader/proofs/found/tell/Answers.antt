use Rattle.std.proofs.Common.{◌≡◌, true, Option, Some, refl, sym, subst}
use Rattle.vg_base.specs.declared.doc_fault.DocFault.{DocFault}
use Rattle.rule_reader.specs.code.Walks.{told, Adds}
use Rattle.rule_reader.proofs.Told.{adds_one}
use Rattle.rule_reader.proofs.found.tell.Goals as goal

pub returns-then-holds : goal.returns-then-holds
returns-then-holds c =
    let one : Adds (told true c.args.span c.args.kind) c.args.found.now c.sooner.result = subst (Adds (told true c.args.span c.args.kind) c.args.found.now) (sym c.sooner.ensures.value) (adds_one c.args.found.now (record { place = c.args.span.place; kind = c.args.kind })) in
    subst (λ b. Adds (told b c.args.span c.args.kind) c.args.found.now c.sooner.result) (sym c.if-holds.true) one
