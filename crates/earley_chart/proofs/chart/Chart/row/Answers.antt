use Rattle.std.proofs.Common.{ℕ, ◌≡◌, subst}
use Rattle.std.specs.Prelude.{MatchOption}
use Rattle.earley_chart.specs.Chart.{Table, Predicts, IsRow}
use Rattle.earley_chart.proofs.Charts.{found_row}
use Rattle.earley_chart.proofs.chart.Chart.row.Goals as goal

pub returns-clause-row : goal.returns-clause-row
returns-clause-row c =
    subst (λ (t : Table). MatchOption c.get_index_of.result (Predicts t c.args.node c.args.start → ⊥) (λ row. IsRow t row c.args.node c.args.start)) c.self.view_is
    (found_row c.self.inside.spots.keys (record { node = c.args.node.0; step = 0; start = c.args.start }) c.get_index_of.result c.get_index_of.ensures.index c.get_index_of.ensures.found)
