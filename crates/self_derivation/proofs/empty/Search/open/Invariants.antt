use Rattle.self_derivation.proofs.OpenLemmas.{IsOpen}
use Rattle.self_derivation.proofs.empty.Search.open.Given as goal

abbrev pub invariant-loop-n : goal.invariant-loop-n
invariant-loop-n l = IsOpen l.linked l.n l.missing.items l.left.items
