use Rattle.std.proofs.Common.{sym, ◌∙◌, arith}
use Rattle.abnf_lexer.specs.code.Front.{front}
use Rattle.abnf_lexer.specs.code.Tally.{Passed}
use Rattle.abnf_lexer.proofs.Counting.{brackets-le}
use Rattle.abnf_lexer.proofs.Cuttings.{no_piece}
use Rattle.abnf_lexer.proofs.Next.{found_next, none_next, passes_next}
use Rattle.abnf_lexer.proofs.tally.tally_of.Goals as goal

pub take-requires-clause-few : goal.take-requires-clause-few
take-requires-clause-few c =
    let none = (found_next c.loop-cut.tally.fault (front c.loop-cut.cursor.rest) c.in-Some.cut (sym c.next.ensures.value ∙ c.in-Some.is)).0 in
    let p : Passed = record { front = c.args.cursor.now.passed; pieces = c.loop-cut.invariant.0; rest = c.loop-cut.cursor.rest } in
    let le = brackets-le c.loop-cut.tally p none c.loop-cut.invariant.1.2 in
    let ok = c.loop-cut.tally.found.ok.0 in omega arith

pub loop-cut-preserved : goal.loop-cut-preserved
loop-cut-preserved c =
    passes_next c.args.cursor.now c.loop-cut.cursor c.loop-cut.tally c.take.new.self c.in-Some.cut c.take.new.cursor c.loop-cut.invariant.0 c.loop-cut.invariant.1
    (sym c.next.ensures.value ∙ c.in-Some.is) c.in_ok-take.ensures.passed c.in_ok-take.ensures.counted

pub returns : goal.returns
returns c = record {
  pieces = c.loop-cut.invariant.0;
  cuts = c.loop-cut.invariant.1.0;
  passed = c.loop-cut.invariant.1.1;
  is_tally = c.loop-cut.invariant.1.2;
  stuck = λ e. no_piece c.loop-cut.cursor.rest (none_next c.loop-cut.tally.fault (front c.loop-cut.cursor.rest) (sym c.next.ensures.value ∙ c.in_default.is) e);
}
