use Rattle.std.proofs.Common.{length, take, get_or, ◌∙◌, sym, ap, subst, refl, arith}
use Rattle.build_core.specs.declared.event.Event.TheVariants.{Want}
use Rattle.build_core.specs.Rows.{ByRows}
use Rattle.build_core.specs.Core.{Core, Enabled, after}
use Rattle.build_core.proofs.Ends.{few_taken, run_taken, after_taken, length_after_all}
use Rattle.build_core.proofs.core_state.CoreState.apply_all.Goals as goal

pub enabled-requires : goal.enabled-requires
enabled-requires c =
    ap (λ (s : Core). length s.docs) c.loop-event.invariant.moved ∙ length_after_all c.args.self.now (take c.loop-event.event-index c.args.events.now) ∙ c.requires

pub returns-then-not-enabled-clause-few : goal.returns-then-not-enabled-clause-few
returns-then-not-enabled-clause-few c =
    let i = c.loop-event.invariant in
    let few = few_taken (ByRows c.args.imports.now) c.args.self.now c.args.events.now c.loop-event.event-index (length c.args.imports.now) c.loop-event.auto.event-index-end i.ran c.requires in
    omega (arith, few, i.counted)

pub overflow_add-count : goal.overflow_add-count
overflow_add-count c =
    let i = c.loop-event.invariant in
    let few = few_taken (ByRows c.args.imports.now) c.args.self.now c.args.events.now c.loop-event.event-index (length c.args.imports.now) c.loop-event.auto.event-index-end i.ran c.requires in
    let rows = c.len-documents.ensures.closed.few in
    omega (arith, few, i.counted, rows)

pub loop-event-preserved : goal.loop-event-preserved
loop-event-preserved c =
    let i = c.loop-event.invariant in
    let d = Want (record { 0 = 0 }) (record { 0 = 0 }) in
    let e = get_or c.args.events.now c.loop-event.event-index d in
    let now : Enabled (ByRows c.args.imports.now) c.loop-event.self e = c.if-not-enabled.ensures.0 refl in record {
      counted = omega (arith, i.counted);
      ran = run_taken (ByRows c.args.imports.now) c.args.self.now c.args.events.now c.loop-event.event-index d c.loop-event-test.true i.ran (subst (λ (s : Core). Enabled (ByRows c.args.imports.now) s e) i.moved now);
      moved = c.apply.ensures.moved ∙ ap (λ (s : Core). after s e) i.moved ∙ sym (after_taken c.args.self.now c.args.events.now c.loop-event.event-index d c.loop-event-test.true);
    }

pub returns-clause-few : goal.returns-clause-few
returns-clause-few c =
    let i = c.loop-event.invariant in
    let few = few_taken (ByRows c.args.imports.now) c.args.self.now c.args.events.now c.loop-event.event-index (length c.args.imports.now) c.loop-event.auto.event-index-end i.ran c.requires in
    omega (arith, few, i.counted)
