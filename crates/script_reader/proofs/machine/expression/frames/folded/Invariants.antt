use Rattle.std.proofs.Common.{◌≡◌, length}
use Rattle.script_reader.specs.code.Expressions as spec
use Rattle.script_reader.proofs.machine.expression.frames.folded.Given as goal

abbrev pub invariant-loop-value : goal.invariant-loop-value
invariant-loop-value l = spec.folded l.least l.frames l.room l.value ≡ spec.folded l.least l.fn.frames l.fn.room l.fn.value

abbrev pub decreases-loop-value : goal.decreases-loop-value
decreases-loop-value l = length l.frames
