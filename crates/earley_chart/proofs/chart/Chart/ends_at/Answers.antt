use Rattle.std.proofs.Common.{ℕ, ◌≡◌, ◌≤◌, ◌<◌, subst, arith, ltb-true}
use Rattle.earley_chart.specs.Chart.{Table, IsTable}
use Rattle.earley_chart.proofs.Charts.{none_past}
use Rattle.earley_chart.proofs.chart.Chart.ends_at.Goals as goal

pub returns-else-place-lt128 : goal.returns-else-place-lt128
returns-else-place-lt128 c = (
  λ h. absurd (omega (arith, ltb-true _ _ h)),
  λ h. absurd (none_past c.args.self.now (subst IsTable c.self.view_is c.self.invariant) c.args.row c.args.place c.if-place-lt128.false h),
)
