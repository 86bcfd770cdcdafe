-- Each state so far is by a loader that is there.
use Rattle.std.proofs.Common.{◌<◌, ℕ}
use Rattle.build_core.specs.Core.{at, IsByLoader}
use Rattle.build_core.proofs.core_state.all_by_loaders.Given as goal

abbrev pub invariant-loop-state : goal.invariant-loop-state
invariant-loop-state l = (d : ℕ) → d < l.state-index → IsByLoader l.loaders (at l.docs d)
