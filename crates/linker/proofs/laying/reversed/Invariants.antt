use Rattle.std.proofs.Common.{◌≡◌, ◌++◌, length, reverse}
use Rattle.linker.proofs.laying.reversed.Given as goal

abbrev pub invariant-loop-last : goal.invariant-loop-last
invariant-loop-last g l = reverse l.fn.items ≡ l.all.items ++ reverse l.items

abbrev pub decreases-loop-last : goal.decreases-loop-last
decreases-loop-last g l = length l.items
