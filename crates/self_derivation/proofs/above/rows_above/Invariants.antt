use Rattle.self_derivation.specs.code.Above.{AreAboveUpTo}
use Rattle.self_derivation.proofs.above.rows_above.Given as goal

abbrev pub invariant-loop-n : goal.invariant-loop-n
invariant-loop-n l = AreAboveUpTo l.linked l.n l.rows
