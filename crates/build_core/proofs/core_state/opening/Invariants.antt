-- Each entry so far is wanted, and nothing else has changed.
use Rattle.std.proofs.Common.{◌≡◌, ◌⊎◌, ℕ, length}
use Rattle.std.specs.List.{AllWithin, Contains}
use Rattle.build_core.specs.declared.event.DocState.TheVariants.{Unseen, Wanted}
use Rattle.build_core.specs.Rows.{ix}
use Rattle.build_core.specs.Core.{at}
use Rattle.build_core.proofs.core_state.opening.Given as goal

abbrev pub invariant-loop-entry : goal.invariant-loop-entry
invariant-loop-entry l = record {
  len : length l.docs.items ≡ l.size;
  wanted : AllWithin (λ d. at l.docs.items d.0 ≡ Wanted) l.entries 0 l.entry-index;
  others : (d : ℕ) → (at l.docs.items d ≡ Unseen) ⊎ ((at l.docs.items d ≡ Wanted) × Contains l.entries (ix d));
}
