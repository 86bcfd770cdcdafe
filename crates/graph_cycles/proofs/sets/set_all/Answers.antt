use Rattle.std.proofs.Common.{ap, sym, ◌∙◌}
use Rattle.std.specs.Prelude.{slice_set, slice_index}
use Rattle.graph_cycles.proofs.Lists.{set_all_next}
use Rattle.graph_cycles.proofs.sets.set_all.Goals as goal

pub loop-place-preserved : goal.loop-place-preserved
loop-place-preserved g c =
    ap (λ l. slice_set l (slice_index c.args.places.now c.loop-place.place-index) c.args.value) c.loop-place.invariant
    ∙ sym (set_all_next c.args.places.now c.loop-place.place-index c.args.value c.args.items.now c.loop-place-test.true)
