use Rattle.std.proofs.Common.{◌-◌, length}
use Rattle.script_reader.proofs.ReadLoop.{SoFar}
use Rattle.script_reader.proofs.read.read_characters.Given as goal

abbrev pub invariant-loop-next : goal.invariant-loop-next
invariant-loop-next l = SoFar l.text l.at l.state

abbrev pub decreases-loop-next : goal.decreases-loop-next
decreases-loop-next l = length l.text - l.at
