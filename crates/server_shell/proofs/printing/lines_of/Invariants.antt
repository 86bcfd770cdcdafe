-- The lines of the replies so far.
use Rattle.std.proofs.Common.{◌≡◌, take}
use Rattle.std.specs.List.{flat_map}
use Rattle.server_shell.proofs.printing.lines_of.Given as goal

abbrev pub invariant-loop-reply : goal.invariant-loop-reply
invariant-loop-reply g l = l.lines.items ≡ flat_map g.R.Printed.line (take l.reply-index l.replies)
