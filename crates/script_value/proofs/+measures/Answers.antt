use Rattle.std.proofs.Common.{arith, sym, ap, ◌∙◌}
use Rattle.std.proofs.lemmas.List.{drop_all}
use Rattle.script_value.specs.Measures as spec
use Rattle.script_value.proofs.Deep.{member-deep}
use Rattle.script_value.proofs.Together.{both-last, measures-Record}
use Rattle.script_value.proofs.+measures.Goals as goal

pub measures::of_items-returns : goal.measures::of_items-returns
measures::of_items-returns t c =
    let all = c.loop-value.invariant in
    sym (both-last c.loop-value.all all.values all.bytes)
    ∙ ap (λ vs. spec.both c.loop-value.all (spec.of_items vs)) (sym (drop_all c.loop-value.value-index c.args.values.now (omega arith)))
    ∙ all.together

pub measures::of_members-measures-requires : goal.measures::of_members-measures-requires
measures::of_members-measures-requires t c =
    let deep = member-deep c.args.members.now c.into_iter-key-iterator.result c.loop-key.key-iterator c.next.new.self c.loop-key.yielded c.next.result (c.in-Some.key, c.in-Some.value)
    (c.into_iter-key-iterator.ensures.into_iter_gives ∙ c.iter-key-items.ensures.rest) c.loop-key.yielded_by c.in-Some.is c.next.ensures.steps in
    (omega arith, tt)

pub measures::of_members-returns : goal.measures::of_members-returns
measures::of_members-returns t c =
    let all = c.loop-key.invariant in
    sym (both-last c.loop-key.all all.values all.bytes)
    ∙ ap (λ ms. spec.both c.loop-key.all (spec.of_members ms)) (sym c.in-None.ensures.steps.0)
    ∙ all.together

pub value::Value::measures-returns-in-Record : goal.value::Value::measures-returns-in-Record
value::Value::measures-returns-in-Record t c =
    c.around-in-Record.ensures ∙ ap spec.around c.of_members.ensures ∙ measures-Record c.in-Record.members ∙ ap spec.measures (sym c.in-Record.is)
