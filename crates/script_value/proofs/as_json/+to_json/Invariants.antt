use Rattle.std.proofs.Common.{◌≡◌, true, map, take, drop}
use Rattle.std.specs.List.{AllByRecursion}
use Rattle.std.specs.Map.{keys_of, values_of}
use Rattle.std.specs.Str.{all_scalars}
use Rattle.serde_json.specs.View.{view, members_view}
use Rattle.script_value.specs.Json.{json, json_members, put_all, shown}
use Rattle.script_value.specs.Kept.{IsKept}
use Rattle.script_value.proofs.as_json.+to_json.Given as goal

-- the items so far are shown, and the rest decides whether all are kept
abbrev pub invariant-list-loop-value : goal.invariant-list-loop-value
invariant-list-loop-value l = record {
  made : map view l.all.items ≡ map json (take l.value-index l.values);
  kept : AllByRecursion IsKept (drop l.value-index l.values) → AllByRecursion IsKept l.values;
}

-- the members so far, with the rest put to them, are all
abbrev pub invariant-record-loop-key : goal.invariant-record-loop-key
invariant-record-loop-key l = record {
  can_next : (goal.iterator-record-loop-key).can_next l.key-iterator;
  is_finite : (goal.iterator-record-loop-key).is_finite l.key-iterator;
  made : put_all (members_view l.all.entries) (shown l.key-iterator) ≡ json_members l.members;
  scalars : AllByRecursion (λ key. all_scalars key ≡ true) (keys_of l.key-iterator) → AllByRecursion (λ key. all_scalars key ≡ true) (keys_of l.members);
  kept : AllByRecursion IsKept (values_of l.key-iterator) → AllByRecursion IsKept (values_of l.members);
}
