-- An event that is enabled keeps a sound state sound.
use Rattle.std.proofs.Common.{sym, subst}
use Rattle.build_core.specs.Rows.{ByRows}
use Rattle.build_core.specs.Core.{Core, Sound}
use Rattle.build_core.proofs.Keeps.{event_keeps}
use Rattle.build_core.proofs.core_state.CoreState.apply.Goals as goal

pub returns-clause-sound : goal.returns-clause-sound
returns-clause-sound c = λ entries s.
    subst (λ (n : Core). Sound (ByRows c.args.imports.now) entries n.docs) (sym c.move_by.ensures)
    (event_keeps (ByRows c.args.imports.now) c.args.self.now c.args.event c.requires entries s)
