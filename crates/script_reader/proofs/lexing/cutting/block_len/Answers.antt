use Rattle.std.proofs.Common.{sym, ◌∙◌, arith}
use Rattle.script_reader.proofs.Blocks.{goes_on, is_none}
use Rattle.script_reader.proofs.lexing.cutting.block_len.Goals as goal

pub returns-clause-value : goal.returns-clause-value
returns-clause-value c = is_none c.args.text.now c.loop-n.n _ (omega arith) c.loop-n.invariant.0

pub loop-n-preserved : goal.loop-n-preserved
loop-n-preserved c =
    (goes_on c.args.text.now c.loop-n.n _ _ _ c.loop-n-test.true c.index-text-n.is c.index-text-n-in-loop-n.is (sym c.is_close.ensures ∙ c.if-is_close.false) c.loop-n.invariant.0, omega arith)
