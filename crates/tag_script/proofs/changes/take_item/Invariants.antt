use Rattle.std.proofs.Common.{◌≡◌, ◌++◌, ◌<◌, length, reverse}
use Rattle.tag_script.proofs.changes.take_item.Given as goal

-- the items are in front or behind, and the place is in front
abbrev pub invariant-loop-front : goal.invariant-loop-front
invariant-loop-front l = (l.at ≡ l.fn.at) × (l.fn.items ≡ l.front ++ reverse l.behind) × (l.at < length l.front)

abbrev pub decreases-loop-front : goal.decreases-loop-front
decreases-loop-front l = length l.front
