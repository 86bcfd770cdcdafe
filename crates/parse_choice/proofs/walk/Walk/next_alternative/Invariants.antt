use Rattle.std.proofs.Common.{ℕ, ◌<◌, ◌≤◌}
use Rattle.parse_choice.specs.code.Steps.{IsPossible}
use Rattle.parse_choice.proofs.walk.Walk.next_alternative.Given as goal

abbrev pub invariant-loop-k : goal.invariant-loop-k
invariant-loop-k l = (j : ℕ) → l.fn.from ≤ j → j < l.k → IsPossible l.chart l.parts l.ends l.self.place j → ⊥
