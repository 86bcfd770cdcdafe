use Rattle.std.proofs.Common.{◌≡◌, take}
use Rattle.build_core.specs.Rows.{ByRows}
use Rattle.build_core.specs.Core.{IsRun, after_all}
use Rattle.build_core.proofs.core_state.CoreState.apply_all.Given as goal

abbrev pub invariant-loop-event : goal.invariant-loop-event
invariant-loop-event l = record {
  counted : l.count ≡ l.event-index;
  ran : IsRun (ByRows l.imports) l.fn.self (take l.event-index l.events);
  moved : l.self ≡ after_all l.fn.self (take l.event-index l.events);
}
