use Rattle.std.proofs.Common.{◌≡◌, [], replicate}
use Rattle.self_derivation.proofs.rows.Rows.new.Given as goal

abbrev pub invariant-loop : goal.invariant-loop
invariant-loop l = l.rows.items ≡ replicate l.counter []
