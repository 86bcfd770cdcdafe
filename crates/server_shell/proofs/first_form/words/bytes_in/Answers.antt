-- One more word.
use Rattle.std.proofs.Common.{ℕ, length, arith, sym, ap}
use Rattle.server_shell.proofs.first_form_lemmas.TextWords.{bytes_in-more}
use Rattle.server_shell.proofs.first_form.words.bytes_in.Goals as goal

pub loop-word-preserved : goal.loop-word-preserved
loop-word-preserved c =
    let more = bytes_in-more c.args.words.now c.loop-word.word-index c.word-item.result
    c.loop-word-test.true (sym c.word-item.is) in
    let len = ap (length {A = ℕ}) c.as_str.ensures.bytes in
    omega (arith, c.loop-word.invariant, c.ranges.most.fits, c.requires)
