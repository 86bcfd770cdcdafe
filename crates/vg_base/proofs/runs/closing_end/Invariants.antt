use Rattle.std.proofs.Common.{◌≡◌, drop}
use Rattle.vg_base.specs.Runs.{further, closing_end}
use Rattle.vg_base.proofs.runs.closing_end.Given as goal

abbrev pub invariant-loop-at : goal.invariant-loop-at
invariant-loop-at l = further l.at (closing_end l.close (drop l.at l.text)) ≡ closing_end l.close l.text
