use Rattle.std.proofs.Common.{◌≡◌, ◌++◌, length, reverse}
use Rattle.script_reader.proofs.machine.views.reversed.Given as goal

abbrev pub invariant-loop-key : goal.invariant-loop-key
invariant-loop-key l = l.back ++ reverse l.path ≡ reverse l.fn.path

abbrev pub decreases-loop-key : goal.decreases-loop-key
decreases-loop-key l = length l.path
