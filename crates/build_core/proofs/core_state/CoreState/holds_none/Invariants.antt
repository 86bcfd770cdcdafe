use Rattle.std.proofs.Common.{◌≢◌, ◌<◌, ℕ}
use Rattle.build_core.specs.declared.event.DocState.TheVariants.{Held}
use Rattle.build_core.specs.Core.{at}
use Rattle.build_core.proofs.core_state.CoreState.holds_none.Given as goal

abbrev pub invariant-loop-state : goal.invariant-loop-state
invariant-loop-state l = (d : ℕ) → d < l.state-index → at l.self.docs d ≢ Held l.loader
