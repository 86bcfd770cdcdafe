use Rattle.std.proofs.Common.{refl, sym, subst}
use Rattle.grammar_tree.specs.Derives.{Words}
use Rattle.earley_chart.specs.Chart.{RanOn}
use Rattle.earley_chart.proofs.Charts.{ran_on}
use Rattle.earley_chart.proofs.chart.Chart.run.Goals as goal

pub returns-clause-ran : goal.returns-clause-ran
returns-clause-ran c =
    subst (λ (ws : Words). RanOn c.args.linked.now (record { rule = c.args.rule; words = ws; spots = c.in_ok-spots.field-0.spots.keys; ends = c.in_ok-spots.field-0.ends.items }))
    (sym c.in_ok-words.ensures) (ran_on _ c.in_ok-spots.field-0 c.in_ok-spots.ensures refl)
