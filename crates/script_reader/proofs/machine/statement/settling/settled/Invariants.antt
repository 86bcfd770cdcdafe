use Rattle.std.proofs.Common.{◌≡◌, length}
use Rattle.script_reader.specs.code.Statements as spec
use Rattle.script_reader.proofs.machine.statement.settling.settled.Given as goal

abbrev pub invariant-loop-statement : goal.invariant-loop-statement
invariant-loop-statement l = spec.settled l.all l.outer l.room l.statement ≡ spec.settled l.all l.fn.outer l.fn.room l.fn.statement

abbrev pub decreases-loop-statement : goal.decreases-loop-statement
decreases-loop-statement l = length l.outer
