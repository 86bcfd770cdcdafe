use Rattle.std.proofs.Common.{◌≤◌, length, drop}
use Rattle.parse_choice.specs.code.Walks.{state_of}
use Rattle.parse_choice.proofs.Lining.{Lining}
use Rattle.parse_choice.proofs.walk.Walk.sequence.Given as goal

abbrev pub invariant-loop-left : goal.invariant-loop-left
invariant-loop-left l = record {
  within : l.left ≤ length l.parts;
  lining : Lining l.chart (drop l.left l.parts) l.fn.ends l.ends (state_of l.initial.self) (state_of l.self);
}

abbrev pub decreases-loop-left : goal.decreases-loop-left
decreases-loop-left l = l.left
