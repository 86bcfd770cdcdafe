use Rattle.self_derivation.specs.code.Search.{IsSearch, untold}
use Rattle.self_derivation.proofs.empty.searched.Given as goal

abbrev pub invariant-loop-n : goal.invariant-loop-n
invariant-loop-n l = IsSearch l.linked l.search

abbrev pub decreases-loop-n : goal.decreases-loop-n
decreases-loop-n l = untold l.search
