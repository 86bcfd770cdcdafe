use Rattle.std.proofs.Common.{◌≡◌, sym, subst, ⊎_elim, arith}
use Rattle.std.proofs.lemmas.Bool.{cases_lt}
use Rattle.std.proofs.lemmas.Option.{slice_get_within, get_or_from_slice_get}
use Rattle.vg_base.specs.declared.numbers.NodeIx.{NodeIx}
use Rattle.earley_chart.specs.Chart.{Spans}
use Rattle.parse_choice.specs.code.Steps.{IsPossible}
use Rattle.parse_choice.proofs.walk.Walk.next_alternative.Goals as goal

pub loop-k-preserved : goal.loop-k-preserved
loop-k-preserved c = λ j ge lt h. ⊎_elim
    (λ below. c.loop-k.invariant j ge below h)
    (λ here.
    (let same : j ≡ c.loop-k.k = omega (arith, lt, here) in
    let p = subst (λ k. IsPossible c.args.chart.now c.args.parts.now c.args.ends c.args.self.now.place k) same h in
    let is = get_or_from_slice_get c.args.parts.now c.loop-k.k p.0 (record { 0 = 0 }) p.1 in
    c.is_empty.ensures.none c.if-not-is_empty.false p.2.0
    ((c.shared.ensures p.2.0).1 ((c.ends.ensures p.2.0).1 (subst (λ (n : NodeIx). Spans c.args.chart.now n c.args.self.now.place p.2.0) (sym is) p.2.1.0), p.2.2))))
    (cases_lt j c.loop-k.k)

pub returns : goal.returns
returns c = λ k ge h. c.loop-k.invariant k ge (omega (arith, slice_get_within c.args.parts.now k h.0 h.1)) h
