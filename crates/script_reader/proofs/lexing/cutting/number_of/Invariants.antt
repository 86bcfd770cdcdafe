use Rattle.std.proofs.Common.{◌≤◌}
use Rattle.script_reader.specs.Lexemes.{greatest}
use Rattle.script_reader.proofs.Numbers.{ValueSoFar}
use Rattle.script_reader.proofs.lexing.cutting.number_of.Given as goal

abbrev pub invariant-loop-c : goal.invariant-loop-c
invariant-loop-c l = ValueSoFar l.digits l.c-index l.value × (l.value ≤ greatest)
