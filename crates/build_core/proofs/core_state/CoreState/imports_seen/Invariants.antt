-- None of the row's documents so far is unseen.
use Rattle.std.proofs.Common.{◌≢◌}
use Rattle.std.specs.List.{AllWithin}
use Rattle.build_core.specs.declared.event.DocState.TheVariants.{Unseen}
use Rattle.build_core.specs.Core.{at}
use Rattle.build_core.proofs.core_state.CoreState.imports_seen.Given as goal

abbrev pub invariant-loop-import : goal.invariant-loop-import
invariant-loop-import l = AllWithin (λ d. at l.self.docs d.0 ≢ Unseen) l.imported 0 l.import-index
