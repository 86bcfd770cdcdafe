use Rattle.std.proofs.Common.{◌≡◌, ◌++◌, length, reverse}
use Rattle.tag_script.proofs.changes.put_behind.Given as goal

abbrev pub invariant-loop-item : goal.invariant-loop-item
invariant-loop-item l = l.items ++ reverse l.behind ≡ l.fn.items ++ reverse l.fn.behind

abbrev pub decreases-loop-item : goal.decreases-loop-item
decreases-loop-item l = length l.behind
