use Rattle.std.proofs.Common.{length, take, sym, subst}
use Rattle.build_core.specs.Rows.{ByRows}
use Rattle.build_core.specs.Core.{Core, Sound}
use Rattle.build_core.proofs.Ends.{opening_sound, run_keeps, done_is_closure}
use Rattle.build_core.proofs.Once.{claimed_once}
use Rattle.build_core.proofs.core_state.CoreState.run.Goals as goal

pub returns-clause-claimed_once : goal.returns-clause-claimed_once
returns-clause-claimed_once c = λ entries o. claimed_once (ByRows c.args.imports.now) c.args.self.now (take c.apply_all.result c.args.events.now) c.apply_all.ensures.ran

pub returns-clause-sound : goal.returns-clause-sound
returns-clause-sound c = λ entries o.
    subst (λ (s : Core). Sound (ByRows c.args.imports.now) entries s.docs) (sym c.apply_all.ensures.moved)
    (run_keeps (ByRows c.args.imports.now) entries c.args.self.now (take c.apply_all.result c.args.events.now) c.apply_all.ensures.ran (opening_sound (ByRows c.args.imports.now) (length c.args.imports.now) entries c.args.self.now.docs o))

pub returns-clause-closure : goal.returns-clause-closure
returns-clause-closure c = λ entries o end.
    done_is_closure (ByRows c.args.imports.now) entries c.apply_all.new.self.docs
    (subst (λ (s : Core). Sound (ByRows c.args.imports.now) entries s.docs) (sym c.apply_all.ensures.moved)
    (run_keeps (ByRows c.args.imports.now) entries c.args.self.now (take c.apply_all.result c.args.events.now) c.apply_all.ensures.ran (opening_sound (ByRows c.args.imports.now) (length c.args.imports.now) entries c.args.self.now.docs o)))
    end
