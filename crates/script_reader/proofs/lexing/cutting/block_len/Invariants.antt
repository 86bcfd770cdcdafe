use Rattle.std.proofs.Common.{◌≡◌, ◌-◌, ◌≤◌, length, drop}
use Rattle.script_reader.specs.code.Front.{block_len}
use Rattle.script_reader.proofs.Blocks.{further}
use Rattle.script_reader.proofs.lexing.cutting.block_len.Given as goal

abbrev pub invariant-loop-n : goal.invariant-loop-n
invariant-loop-n l = (further l.n (block_len (drop l.n l.text)) ≡ block_len l.text) × (l.n ≤ length l.text)

abbrev pub decreases-loop-n : goal.decreases-loop-n
decreases-loop-n l = length l.text - l.n
