use Rattle.std.proofs.Common.{sym, ap, ◌∙◌, arith, nat_eq}
use Rattle.std.specs.List.{starts_with}
use Rattle.vg_base.proofs.Closings.{closes_here, closes_later, closes_nowhere, rest_is}
use Rattle.vg_base.proofs.runs.closing_end.Goals as goal

pub returns-then-starts_with-clause-value : goal.returns-then-starts_with-clause-value
returns-then-starts_with-clause-value c =
    closes_here c.args.close.now c.args.text.now c.loop-at.at _ c.loop-at-test.true
    (ap (λ xs. starts_with nat_eq xs c.args.close.now) (sym (rest_is c.args.text.now c.loop-at.at)) ∙ (sym c.starts_with.ensures.value ∙ c.if-starts_with.true)) c.loop-at.invariant

pub loop-at-preserved : goal.loop-at-preserved
loop-at-preserved c =
    closes_later c.args.close.now c.args.text.now c.loop-at.at _ c.loop-at-test.true
    (ap (λ xs. starts_with nat_eq xs c.args.close.now) (sym (rest_is c.args.text.now c.loop-at.at)) ∙ (sym c.starts_with.ensures.value ∙ c.if-starts_with.false)) c.loop-at.invariant

pub returns-clause-value : goal.returns-clause-value
returns-clause-value c = closes_nowhere c.args.close.now c.args.text.now c.loop-at.at _ (omega arith) c.loop-at.invariant
