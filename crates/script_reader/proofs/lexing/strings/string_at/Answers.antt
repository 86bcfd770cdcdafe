use Rattle.std.proofs.Common.{ℕ, ◌+◌, true, false, Some, List, sym, ap, ◌∙◌, arith}
use Rattle.std.proofs.lemmas.List.{append-nil}
use Rattle.script_reader.proofs.StringLoop.{moves, ends, closed_within}
use Rattle.script_reader.proofs.lexing.strings.string_at.Goals as goal

pub overflow_add-at : goal.overflow_add-at
overflow_add-at c =
    let step = moves c.args.quote c.args.text.now c.loop-spelled.decoded c.loop-spelled.at c.in-Some.spelled c.loop-spelled.invariant (sym c.first.ensures ∙ c.in-Some.is) in
    omega (arith, step.fits, c.requires)

pub loop-spelled-smaller : goal.loop-spelled-smaller
loop-spelled-smaller c =
    let step = moves c.args.quote c.args.text.now c.loop-spelled.decoded c.loop-spelled.at c.in-Some.spelled c.loop-spelled.invariant (sym c.first.ensures ∙ c.in-Some.is) in
    omega (arith, step.fits, step.some)

pub loop-spelled-preserved : goal.loop-spelled-preserved
loop-spelled-preserved c =
    let step = moves c.args.quote c.args.text.now c.loop-spelled.decoded c.loop-spelled.at c.in-Some.spelled c.loop-spelled.invariant (sym c.first.ensures ∙ c.in-Some.is) in
    rw c.in_ok-push.ensures.ok step.next

pub returns-then-is_closed-clause-value : goal.returns-then-is_closed-clause-value
returns-then-is_closed-clause-value c =
    ap (λ (decoded : List ℕ). Some (decoded, c.loop-spelled.at + 1)) (sym (append-nil c.loop-spelled.decoded))
    ∙ ends c.args.quote c.args.text.now c.loop-spelled.decoded c.loop-spelled.at c.loop-spelled.invariant (sym c.first.ensures ∙ c.in_default.is) true (sym c.is_closed.ensures ∙ c.if-is_closed.true)

pub returns-then-is_closed-clause-within : goal.returns-then-is_closed-clause-within
returns-then-is_closed-clause-within c =
    closed_within c.args.quote c.args.text.now c.loop-spelled.at (sym c.is_closed.ensures ∙ c.if-is_closed.true)

pub returns-else-is_closed-clause-value : goal.returns-else-is_closed-clause-value
returns-else-is_closed-clause-value c =
    ends c.args.quote c.args.text.now c.loop-spelled.decoded c.loop-spelled.at c.loop-spelled.invariant (sym c.first.ensures ∙ c.in_default.is) false (sym c.is_closed.ensures ∙ c.if-is_closed.false)
