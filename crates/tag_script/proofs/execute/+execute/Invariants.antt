use Rattle.std.proofs.Common.{◌≡◌, map}
use Rattle.std.specs.Prelude.{drop}
use Rattle.tag_script.specs.Execution as spec
use Rattle.tag_script.proofs.execute.+execute.Given as goal

-- the rest of the statements makes of the environment so far what all of them make of the first one
abbrev pub invariant-execute_all-loop-statement : goal.invariant-execute_all-loop-statement
invariant-execute_all-loop-statement l =
    spec.in_turn (map spec.effect (drop l.statement-index l.statements)) l.env ≡ spec.in_turn (map spec.effect l.statements) l.fn.env
