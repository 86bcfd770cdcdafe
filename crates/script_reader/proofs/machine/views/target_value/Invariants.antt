use Rattle.std.proofs.Common.{◌≡◌, length, reverse}
use Rattle.script_reader.specs.code.Expressions as spec
use Rattle.script_reader.proofs.machine.views.target_value.Given as goal

abbrev pub invariant-loop-key : goal.invariant-loop-key
invariant-loop-key l = spec.target_value l.value (reverse l.back) ≡ spec.target_value (spec.root_value l.fn.root) l.fn.path

abbrev pub decreases-loop-key : goal.decreases-loop-key
decreases-loop-key l = length l.back
