use Rattle.std.proofs.Common.{sym, arith, refl}
use Rattle.build_core.proofs.Schedule.{first_held, first_wanted, is_finished, held_not_finished, wanted_not_finished, step_enabled, claim_enabled}
use Rattle.build_core.proofs.core_state.CoreState.next_step.Goals as goal

pub overflow_cast-doc : goal.overflow_cast-doc
overflow_cast-doc c =
    let (low, held) = first_held c.args.self.now.docs c.in-Some.doc (sym c.in-Some.ensures.value) in
    let few = c.first_held.ensures.standing.few in
    omega arith

pub overflow_cast-result : goal.overflow_cast-result
overflow_cast-result c =
    let (low, wanted) = first_wanted c.args.self.now.docs c.in-Some-first_wanted.doc (sym c.in-Some-first_wanted.ensures) in
    let few = c.first_held.ensures.standing.few in
    omega arith

pub returns-in-Some-clause-finished : goal.returns-in-Some-clause-finished
returns-in-Some-clause-finished c = (λ e. cc, λ end. absurd (held_not_finished c.args.self.now.docs c.in-Some.doc (sym c.in-Some.ensures.value) end))

pub returns-in-Some-clause-enabled : goal.returns-in-Some-clause-enabled
returns-in-Some-clause-enabled c = λ some.
    rw c.step_of.ensures (step_enabled c.args.imports.now c.args.self.now c.in-Some.doc c.len-documents.ensures.closed c.requires c.first_held.ensures.standing (sym c.in-Some.ensures.value))

pub returns-in-Some-first_wanted-clause-finished : goal.returns-in-Some-first_wanted-clause-finished
returns-in-Some-first_wanted-clause-finished c = (λ e. cc, λ end. absurd (wanted_not_finished c.args.self.now.docs c.in-Some-first_wanted.doc (sym c.in-Some-first_wanted.ensures) end))

pub returns-in-Some-first_wanted-clause-enabled : goal.returns-in-Some-first_wanted-clause-enabled
returns-in-Some-first_wanted-clause-enabled c = λ some.
    claim_enabled c.args.imports.now c.args.self.now c.in-Some-first_wanted.doc some (sym c.in-None.ensures.value) (sym c.in-Some-first_wanted.ensures)

pub returns-in-None-first_wanted-clause-finished : goal.returns-in-None-first_wanted-clause-finished
returns-in-None-first_wanted-clause-finished c = (λ e. is_finished c.args.self.now.docs (sym c.in-None.ensures.value) (sym c.in-None-first_wanted.ensures), λ end. refl)
