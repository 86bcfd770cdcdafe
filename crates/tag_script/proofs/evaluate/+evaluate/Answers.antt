use Rattle.std.proofs.Common.{ap, sym, subst, ◌∙◌}
use Rattle.std.specs.Prelude.{map, [], Ok, Err}
use Rattle.vg_base.specs.Refusals.{Gives}
use Rattle.script_value.specs.declared.value.Value.{Value}
use Rattle.script_value.specs.declared.value.Value.TheVariants as v
use Rattle.tag_script.specs.Evaluation.{meaning, each, members}
use Rattle.tag_script.specs.Outcomes.{Outcome, and_then}
use Rattle.tag_script.specs.Outcomes as outcomes
use Rattle.tag_script.specs.code.Literals.{each_kept, no_items, members_kept, no_members}
use Rattle.tag_script.proofs.ListLiterals.{list_done}
use Rattle.tag_script.proofs.RecordLiterals.{record_done}
use Rattle.tag_script.proofs.Records.{record_meaning, passed_on, passed_gives}
use Rattle.tag_script.proofs.evaluate.+evaluate.Goals as goal

pub evaluate_list-returns : goal.evaluate_list-returns
evaluate_list-returns t c =
    let P : Outcome Value → Type 0 = λ o. Gives c.list.result o in
    subst P (list_done (map meaning c.args.exprs.now) c.args.env.now (Ok c.in_ok-evaluate_each.field-0) c.in_ok-evaluate_each.ensures) c.list.ensures

pub evaluate_list-returns-in_err-evaluate_each : goal.evaluate_list-returns-in_err-evaluate_each
evaluate_list-returns-in_err-evaluate_each t c =
    passed_gives c.from_residual.result c.in_err-evaluate_each.field-0.0 (each_kept (map meaning c.args.exprs.now) c.args.env.now no_items)
    (and_then (each (map meaning c.args.exprs.now) c.args.env.now []) (λ items. outcomes.tested (v.List items)))
    c.from_residual.ensures.1 c.in_err-evaluate_each.ensures
    (λ fault h. sym (list_done (map meaning c.args.exprs.now) c.args.env.now (Err fault) h))

pub evaluate_record-returns : goal.evaluate_record-returns
evaluate_record-returns t c =
    let P : Outcome Value → Type 0 = λ o. Gives c.record.result o in
    subst P (record_done c.args.pairs.now c.args.env.now _ (Ok c.in_ok-evaluate_members.field-0) c.in_ok-places.ensures c.in_ok-evaluate_members.ensures) c.record.ensures

pub evaluate_record-returns-in_err-evaluate_members : goal.evaluate_record-returns-in_err-evaluate_members
evaluate_record-returns-in_err-evaluate_members t c =
    passed_gives c.from_residual-in_err-evaluate_members.result c.in_err-evaluate_members.field-0.0
    (members_kept c.in_ok-places.places (map (λ pair. (pair.0, meaning pair.1)) c.args.pairs.now) 0 c.args.env.now no_members)
    (and_then (members (map (λ pair. (pair.0, meaning pair.1)) c.args.pairs.now) c.args.env.now []) (λ all. outcomes.tested (v.Record all)))
    c.from_residual-in_err-evaluate_members.ensures.1 c.in_err-evaluate_members.ensures
    (λ fault h. sym (record_done c.args.pairs.now c.args.env.now c.in_ok-places.places (Err fault) c.in_ok-places.ensures h))

pub evaluate-returns-in_ok-evaluate_record-in-Record : goal.evaluate-returns-in_ok-evaluate_record-in-Record
evaluate-returns-in_ok-evaluate_record-in-Record t c =
    ap (λ x. meaning x c.args.env.now) c.in-Record.is ∙ ap (λ m. m c.args.env.now) (record_meaning c.in-Record.pairs)
    ∙ ap (λ l. and_then (members (map (λ pair. (pair.0, meaning pair.1)) l) c.args.env.now []) (λ all. outcomes.tested (v.Record all))) (sym c.as_slice-in-Record.ensures)
    ∙ c.in_ok-evaluate_record-in-Record.ensures

pub evaluate-returns-in_err-evaluate_record-in-Record : goal.evaluate-returns-in_err-evaluate_record-in-Record
evaluate-returns-in_err-evaluate_record-in-Record t c =
    passed_on c.from_residual-in_err-evaluate_record-in-Record.result c.in_err-evaluate_record-in-Record.field-0.0
    (and_then (members (map (λ pair. (pair.0, meaning pair.1)) c.as_slice-in-Record.result.now) c.args.env.now []) (λ all. outcomes.tested (v.Record all)))
    (meaning c.args.expr.now c.args.env.now) c.from_residual-in_err-evaluate_record-in-Record.ensures.1 c.in_err-evaluate_record-in-Record.ensures
    (λ fault h. ap (λ x. meaning x c.args.env.now) c.in-Record.is ∙ ap (λ m. m c.args.env.now) (record_meaning c.in-Record.pairs)
    ∙ ap (λ l. and_then (members (map (λ pair. (pair.0, meaning pair.1)) l) c.args.env.now []) (λ all. outcomes.tested (v.Record all))) (sym c.as_slice-in-Record.ensures)
    ∙ h)
