use Rattle.earley_chart.proofs.Charts.{row_tells, span_tells}
use Rattle.earley_chart.proofs.chart.Chart.derives.Goals as goal

pub returns-in-Some-clause-row : goal.returns-in-Some-clause-row
returns-in-Some-clause-row c = row_tells c.args.self.now c.in-Some.ensures.table c.in-Some.row c.args.node c.args.i c.args.j c.ends_at.result c.in-Some.ensures.row c.ends_at.ensures

pub returns-in-Some-clause-derives : goal.returns-in-Some-clause-derives
returns-in-Some-clause-derives c = span_tells c.args.self.now c.args.node c.args.i c.args.j c.ends_at.result
    (row_tells c.args.self.now c.in-Some.ensures.table c.in-Some.row c.args.node c.args.i c.args.j c.ends_at.result c.in-Some.ensures.row c.ends_at.ensures)
