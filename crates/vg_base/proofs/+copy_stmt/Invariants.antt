use Rattle.std.proofs.Common.{◌≡◌, take}
use Rattle.vg_base.proofs.+copy_stmt.Given as goal

abbrev pub invariant-script_copy::copy_statements-loop-statement : goal.invariant-script_copy::copy_statements-loop-statement
invariant-script_copy::copy_statements-loop-statement l = l.copy ≡ take l.statement-index l.statements
