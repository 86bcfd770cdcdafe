-- An opening state is sound.
use Rattle.std.proofs.Common.{◌<◌, ℕ, sym, subst}
use Rattle.std.specs.Prelude.{slice_index_or}
use Rattle.build_core.specs.Rows.{ByRows}
use Rattle.build_core.proofs.Ends.{opening_sound}
use Rattle.build_core.proofs.core_state.CoreState.open.Goals as goal

pub opening-requires : goal.opening-requires
opening-requires c = λ k d low. subst (λ (n : ℕ). (slice_index_or c.args.entries.now k d).0 < n) (sym c.len.ensures.count) (c.requires k d low)

pub returns-clause-sound : goal.returns-clause-sound
returns-clause-sound c = opening_sound (ByRows c.args.imports.now) c.len.result c.args.entries.now c.in_ok-docs.docs.items c.in_ok-docs.ensures
