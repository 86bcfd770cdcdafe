-- So many events came; how many may still come falls.
use Rattle.std.proofs.Common.{ℕ}
use Rattle.build_core.specs.Rows.{ByRows}
use Rattle.build_core.specs.Core.{RunsTo}
use Rattle.build_core.proofs.Ends.{left}
use Rattle.build_core.proofs.core_state.CoreState.step_to_end.Given as goal

abbrev pub invariant-loop-event : goal.invariant-loop-event
invariant-loop-event l = RunsTo (ByRows l.imports) l.fn.self l.count l.self

abbrev pub decreases-loop-event : goal.decreases-loop-event
decreases-loop-event l = left l.self.docs
