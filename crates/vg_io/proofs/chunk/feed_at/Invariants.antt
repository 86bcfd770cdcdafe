-- No line feed stands before the place at hand.
use Rattle.std.proofs.Common.{take}
use Rattle.vg_io.specs.Lines.{HasNoFeed}
use Rattle.vg_io.proofs.chunk.feed_at.Given as goal

abbrev pub invariant-loop-i : goal.invariant-loop-i
invariant-loop-i l = HasNoFeed (take l.i l.bytes)
