use Rattle.std.proofs.Common.{take, refl, subst}
use Rattle.vg_base.specs.Faults.{doc_fault_order}
use Rattle.vg_base.specs.First.{IsFirst}
use Rattle.vg_base.specs.Places.{Walked}
use Rattle.abnf_lexer.specs.Faults.{bad_characters}
use Rattle.abnf_lexer.proofs.Counting.{passes}
use Rattle.abnf_lexer.proofs.tally.Tally.take.Goals as goal

pub returns-in_default : goal.returns-in_default
returns-in_default c = record {
  passed = c.pass-self.ensures.passed;
  counted = λ p w none h. passes c.args.self.now _ p c.args.cut.kind c.args.cut.len c.in_default.not-Lexeme none h
      (subst (λ (walk : Walked). IsFirst doc_fault_order (bad_characters walk.passed (take c.args.cut.len walk.rest)) c.pass-self.result) w c.pass-self.ensures.first) refl refl;
}
