use Rattle.std.proofs.Common.{◌+◌, ◌*◌, length}
use Rattle.tag_script.proofs.changes.+walk.Given as goal

abbrev pub decreases-walked : goal.decreases-walked
decreases-walked a = 2 * length a.more.now

abbrev pub decreases-walked_member : goal.decreases-walked_member
decreases-walked_member a = 2 * length a.rest.now + 1

abbrev pub decreases-walked_item : goal.decreases-walked_item
decreases-walked_item a = 2 * length a.rest.now + 1
