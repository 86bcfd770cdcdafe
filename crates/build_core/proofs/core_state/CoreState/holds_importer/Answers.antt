use Rattle.std.proofs.Common.{length, ap, arith}
use Rattle.build_core.proofs.core_state.CoreState.holds_importer.Goals as goal

pub overflow_cast-i : goal.overflow_cast-i
overflow_cast-i c = let few = c.self.invariant.few in omega (arith, ap length c.deref-state-items.ensures.value)
