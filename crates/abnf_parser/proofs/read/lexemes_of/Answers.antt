use Rattle.std.proofs.Common.{◌+◌, sym, subst}
use Rattle.std.proofs.lemmas.Option.{slice_get-get_or}
use Rattle.abnf_parser.proofs.RoleLemmas.{Shown, next}
use Rattle.abnf_parser.proofs.read.lexemes_of.Goals as goal

pub loop-span-preserved : goal.loop-span-preserved
loop-span-preserved c =
    let there = slice_get-get_or c.args.spans.now c.loop-span.span-index _ c.loop-span-test.true in
    subst (λ xs. Shown c.args.text.now c.args.spans.now xs (c.loop-span.span-index + 1)) (sym c.in_ok-push.ensures.ok)
    (next c.args.text.now c.args.spans.now c.loop-span.lexemes c.loop-span.span-index _ _ c.loop-span.invariant there c.in_ok-lexeme_at.ensures)
