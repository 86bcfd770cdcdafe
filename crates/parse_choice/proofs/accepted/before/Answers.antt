use Rattle.std.proofs.Common.{◌≡◌, inl, inr, sym, ◌∙◌, subst, ⊎_elim, arith, true≢false}
use Rattle.std.proofs.lemmas.Bool.{cases_lt}
use Rattle.earley_chart.specs.declared.places.Places.{Places}
use Rattle.earley_chart.specs.Places.{Has}
use Rattle.parse_choice.specs.code.Ways.{EndsIn}
use Rattle.parse_choice.proofs.accepted.before.Goals as goal
use Rattle.parse_choice.proofs.accepted.before.Goals.{then-not-is_empty, else-not-is_empty}

pub loop-place-preserved : goal.loop-place-preserved
loop-place-preserved c =
    elim c.if-not-is_empty.branch [
      | then-not-is_empty w ↦
          (let some = c.is_empty.ensures.some (λ t. true≢false (sym t ∙ w.if-not-is_empty.true)) in
          let both = (c.shared-reached.ensures some.0).0 some.1 in
          record {
            from = λ i h. ⊎_elim
                (λ old. c.loop-place.invariant.from i old)
                (λ one. subst (λ k. EndsIn c.args.chart.now c.args.node c.args.ends c.args.with_word k) (sym ((w.one.ensures i).0 one)) (some.0, (c.spans.ensures some.0).0 both.0, both.1))
                ((w.with-all.ensures.both i).0 (subst (λ (s : Places). Has s i) w.all-is h));
            has = λ i lt h. subst (λ (s : Places). Has s i) (sym w.all-is) ((w.with-all.ensures.both i).1 (⊎_elim
                (λ below. inl (c.loop-place.invariant.has i below h))
                (λ here. inr ((w.one.ensures i).1 (omega (arith, lt, here))))
                (cases_lt i c.loop-place.place)));
          })
      | else-not-is_empty w ↦
          record {
            from = λ i h. c.loop-place.invariant.from i (subst (λ (s : Places). Has s i) w.all-is h);
            has = λ i lt h. subst (λ (s : Places). Has s i) (sym w.all-is) (⊎_elim
                (λ below. c.loop-place.invariant.has i below h)
                (λ here. absurd (let same : i ≡ c.loop-place.place = omega (arith, lt, here) in
                let e = subst (λ k. EndsIn c.args.chart.now c.args.node c.args.ends c.args.with_word k) same h in
                c.is_empty.ensures.none w.if-not-is_empty.false e.0 ((c.shared-reached.ensures e.0).1 ((c.spans.ensures e.0).1 e.1, e.2))))
                (cases_lt i c.loop-place.place));
          }
    ]
