use Rattle.std.proofs.Common.{◌≡◌, map, take, drop}
use Rattle.std.specs.List.{AllByRecursion}
use Rattle.serde_json.specs.View.{view}
use Rattle.json_reply.specs.Kept.{IsKeptFault}
use Rattle.json_reply.specs.Rows.{fault_data}
use Rattle.json_reply.proofs.lists.faults.Given as goal

-- the faults so far are shown, and the rest decides whether all are kept
abbrev pub invariant-loop-one : goal.invariant-loop-one
invariant-loop-one l = record {
  shown : map view l.all.items ≡ map fault_data (take l.one-index l.faults);
  kept : AllByRecursion IsKeptFault (drop l.one-index l.faults) → AllByRecursion IsKeptFault l.faults;
}
