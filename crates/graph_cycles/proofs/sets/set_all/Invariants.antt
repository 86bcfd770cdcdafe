use Rattle.std.proofs.Common.{◌≡◌, take}
use Rattle.graph_cycles.specs.code.Sets.{set_all}
use Rattle.graph_cycles.proofs.sets.set_all.Given as goal

abbrev pub invariant-loop-place : goal.invariant-loop-place
invariant-loop-place g l = l.items ≡ set_all (take l.place-index l.places) l.value l.initial.items
