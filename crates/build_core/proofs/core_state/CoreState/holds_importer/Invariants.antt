use Rattle.std.proofs.Common.{◌≡◌, ◌<◌, ℕ}
use Rattle.build_core.specs.declared.event.DocState.TheVariants.{Held}
use Rattle.build_core.specs.Rows.{ByRows}
use Rattle.build_core.specs.Core.{at}
use Rattle.build_core.proofs.core_state.CoreState.holds_importer.Given as goal

abbrev pub invariant-loop-i : goal.invariant-loop-i
invariant-loop-i l = (d : ℕ) → d < l.i → at l.self.docs d ≡ Held l.loader → ByRows l.imports d l.doc.0 → ⊥
