use Rattle.std.proofs.Common.{◌≡◌, drop}
use Rattle.vg_base.specs.Reading.{answer, answer_from}
use Rattle.abnf_parser.specs.code.Readers.{machine}
use Rattle.abnf_parser.proofs.read.machine_answer.Given as goal

abbrev pub invariant-loop-lexeme : goal.invariant-loop-lexeme
invariant-loop-lexeme l = (l.at ≡ l.lexeme-index) × (answer_from machine l.at l.reader (drop l.at l.lexemes) ≡ answer machine l.lexemes)
