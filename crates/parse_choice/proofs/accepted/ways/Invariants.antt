use Rattle.parse_choice.proofs.WaySets.{WaysSoFar}
use Rattle.parse_choice.specs.code.Ways.{AreInLine}
use Rattle.parse_choice.proofs.accepted.ways.Given as goal

abbrev pub invariant-loop : goal.invariant-loop
invariant-loop l = (line : AreInLine l.chart) → WaysSoFar l.chart line l.inner l.fn.ends l.ways l.set l.counter
