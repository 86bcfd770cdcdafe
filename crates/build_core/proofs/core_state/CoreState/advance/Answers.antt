-- An event that is enabled keeps a sound state sound.
use Rattle.std.proofs.Common.{sym, subst}
use Rattle.build_core.specs.Rows.{ByRows}
use Rattle.build_core.specs.Core.{Core, Sound}
use Rattle.build_core.proofs.Keeps.{event_keeps}
use Rattle.build_core.proofs.core_state.CoreState.advance.Goals as goal

pub returns-then-allowed-clause-sound : goal.returns-then-allowed-clause-sound
returns-then-allowed-clause-sound c = λ rows h entries s.
    subst (λ (n : Core). Sound (ByRows rows) entries n.docs) (sym c.move_by.ensures)
    (event_keeps (ByRows rows) c.args.self.now c.args.event h entries s)
