use Rattle.std.proofs.Common.{◌-◌, length}
use Rattle.script_reader.proofs.StringLoop.{SoFar}
use Rattle.script_reader.proofs.lexing.strings.string_at.Given as goal

abbrev pub invariant-loop-spelled : goal.invariant-loop-spelled
invariant-loop-spelled l = SoFar l.quote l.text l.decoded l.at

abbrev pub decreases-loop-spelled : goal.decreases-loop-spelled
decreases-loop-spelled l = length l.text - l.at
