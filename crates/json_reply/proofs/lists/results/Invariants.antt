use Rattle.std.proofs.Common.{◌≡◌, map, take, drop}
use Rattle.std.specs.List.{AllByRecursion}
use Rattle.serde_json.specs.View.{view}
use Rattle.json_reply.specs.Kept.{IsKeptResult}
use Rattle.json_reply.specs.Rows.{best_data}
use Rattle.json_reply.proofs.lists.results.Given as goal

-- the results so far are shown, and the rest decides whether all are kept
abbrev pub invariant-loop-one : goal.invariant-loop-one
invariant-loop-one l = record {
  shown : map view l.all.items ≡ map best_data (take l.one-index l.results);
  kept : AllByRecursion IsKeptResult (drop l.one-index l.results) → AllByRecursion IsKeptResult l.results;
}
