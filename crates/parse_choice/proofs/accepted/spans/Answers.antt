use Rattle.parse_choice.proofs.WaySets.{leaves_further}
use Rattle.parse_choice.proofs.accepted.spans.Goals as goal

pub returns-then-with_word : goal.returns-then-with_word
returns-then-with_word c =
    leaves_further c.args.chart.now c.requires.line c.args.node c.args.place c.ends-ends.result c.range.result c.shared.result c.args.with_word c.if-with_word.true c.ends-ends.ensures c.range.ensures c.shared.ensures
