use Rattle.std.proofs.Common.{drop}
use Rattle.std.specs.declared.cmp.Ordering.{Ordering}
use Rattle.grammar_tree.specs.Comparing.{ComparesFronts}
use Rattle.grammar_tree.proofs.comparing.+compare.Given as goal

abbrev pub invariant-compare_fronts-loop-k : goal.invariant-compare_fronts-loop-k
invariant-compare_fronts-loop-k l = (o : Ordering) → ComparesFronts (drop l.k l.own) (drop l.k l.others) o → ComparesFronts l.own l.others o
