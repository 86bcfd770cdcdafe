-- One event more: there are as many documents and loaders as before, and fewer events may still come.
use Rattle.std.proofs.Common.{ℕ, ◌+◌, ◌≤◌, sym, ◌∙◌, subst, arith}
use Rattle.build_core.specs.Rows.{ByRows}
use Rattle.build_core.specs.Core.{Core, RunsTo}
use Rattle.build_core.proofs.Ends.{left_falls, runs_few, runs_loaders, runs_on, runs_sized}
use Rattle.build_core.proofs.core_state.CoreState.step_to_end.Goals as goal

pub next_step-requires : goal.next_step-requires
next_step-requires c = runs_sized (ByRows c.args.imports.now) c.args.self.now c.loop-event.count c.loop-event.self c.loop-event.invariant ∙ c.requires.sized

pub apply-requires : goal.apply-requires
apply-requires c =
    let same = runs_loaders (ByRows c.args.imports.now) c.args.self.now c.loop-event.count c.loop-event.self c.loop-event.invariant in
    c.in-Some.ensures.enabled (subst (λ (n : ℕ). 1 ≤ n) (sym same) c.requires.loaders)

pub overflow_add-count : goal.overflow_add-count
overflow_add-count c =
    let few = runs_few (ByRows c.args.imports.now) c.args.self.now c.loop-event.count c.loop-event.self c.loop-event.invariant in
    let rows = c.len-documents.ensures.closed.few in
    omega (arith, few, rows, c.requires.sized)

pub loop-event-smaller : goal.loop-event-smaller
loop-event-smaller c =
    let same = runs_loaders (ByRows c.args.imports.now) c.args.self.now c.loop-event.count c.loop-event.self c.loop-event.invariant in
    let now = c.in-Some.ensures.enabled (subst (λ (n : ℕ). 1 ≤ n) (sym same) c.requires.loaders) in
    rw c.apply.ensures.moved (left_falls (ByRows c.args.imports.now) c.loop-event.self c.in-Some.event now)

pub loop-event-preserved : goal.loop-event-preserved
loop-event-preserved c =
    let same = runs_loaders (ByRows c.args.imports.now) c.args.self.now c.loop-event.count c.loop-event.self c.loop-event.invariant in
    let now = c.in-Some.ensures.enabled (subst (λ (n : ℕ). 1 ≤ n) (sym same) c.requires.loaders) in
    subst (λ (s : Core). RunsTo (ByRows c.args.imports.now) c.args.self.now (c.loop-event.count + 1) s) (sym c.apply.ensures.moved)
    (runs_on (ByRows c.args.imports.now) c.args.self.now c.loop-event.count c.loop-event.self c.in-Some.event c.loop-event.invariant now)
