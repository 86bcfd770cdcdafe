use Rattle.std.proofs.Common.{ℕ, ◌≡◌, ◌∙◌, length, ap, subst}
use Rattle.std.specs.Prelude.{◌↔◌, IsTrue}
use Rattle.earley_chart.specs.Chart.{Table, IsTable, EndsAt}
use Rattle.earley_chart.proofs.Charts.{match_tells}
use Rattle.earley_chart.proofs.chart.Chart.matched.Goals as goal

pub returns : goal.returns
returns c =
    let all : c.len.result ≡ length c.args.self.now.words = c.len.ensures ∙ ap (λ (t : Table). length t.words) c.self.view_is in
    match_tells c.args.self.now (subst IsTable c.self.view_is c.self.invariant) c.ends_at.result
    (subst (λ j. IsTrue c.ends_at.result ↔ EndsAt c.args.self.now 0 j) all c.ends_at.ensures)
