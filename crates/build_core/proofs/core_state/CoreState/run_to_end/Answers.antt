-- What follows of a run to a finished state.
use Rattle.std.proofs.Common.{length, ◌*◌, ◌≤◌, ℕ, subst}
use Rattle.build_core.specs.Rows.{ByRows}
use Rattle.build_core.proofs.Ends.{done_is_closure, runs_few, runs_sized, runs_sound}
use Rattle.build_core.proofs.core_state.CoreState.run_to_end.Goals as goal

pub returns-clause-few : goal.returns-clause-few
returns-clause-few c =
    subst (λ (n : ℕ). c.step_to_end.result ≤ 3 * n) c.requires.sized
    (runs_few (ByRows c.args.imports.now) c.args.self.now c.step_to_end.result c.step_to_end.new.self c.step_to_end.ensures.ran)

pub returns-clause-sized : goal.returns-clause-sized
returns-clause-sized c = runs_sized (ByRows c.args.imports.now) c.args.self.now c.step_to_end.result c.step_to_end.new.self c.step_to_end.ensures.ran

pub returns-clause-sound : goal.returns-clause-sound
returns-clause-sound c = runs_sound (ByRows c.args.imports.now) c.args.self.now c.step_to_end.result c.step_to_end.new.self c.step_to_end.ensures.ran

pub returns-clause-closure : goal.returns-clause-closure
returns-clause-closure c = λ entries s.
    done_is_closure (ByRows c.args.imports.now) entries c.step_to_end.new.self.docs
    (runs_sound (ByRows c.args.imports.now) c.args.self.now c.step_to_end.result c.step_to_end.new.self c.step_to_end.ensures.ran entries s) c.step_to_end.ensures.finished
