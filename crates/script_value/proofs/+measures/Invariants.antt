use Rattle.std.proofs.Common.{◌≡◌, ◌^◌, ◌<◌, drop}
use Rattle.script_value.specs.Measures as spec
use Rattle.script_value.proofs.+measures.Given as goal

-- the parts so far with the rest are all parts
abbrev pub invariant-measures::of_items-loop-value : goal.invariant-measures::of_items-loop-value
invariant-measures::of_items-loop-value l = record {
  together : spec.both l.all (spec.of_items (drop l.value-index l.values)) ≡ spec.of_items l.values;
  values : l.all.values < 2 ^ 64;
  bytes : l.all.bytes < 2 ^ 64;
}

abbrev pub invariant-measures::of_members-loop-key : goal.invariant-measures::of_members-loop-key
invariant-measures::of_members-loop-key l = record {
  can_next : (goal.iterator-measures::of_members-loop-key).can_next l.key-iterator;
  is_finite : (goal.iterator-measures::of_members-loop-key).is_finite l.key-iterator;
  together : spec.both l.all (spec.of_members l.key-iterator) ≡ spec.of_members l.members;
  values : l.all.values < 2 ^ 64;
  bytes : l.all.bytes < 2 ^ 64;
}
