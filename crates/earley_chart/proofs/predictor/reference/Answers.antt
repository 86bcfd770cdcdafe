use Rattle.earley_chart.proofs.LeafAnswers.{body_spot, body_ends}
use Rattle.earley_chart.proofs.predictor.reference.Goals as goal

pub look-requires-clause-right : goal.look-requires-clause-right
look-requires-clause-right c =
    body_spot c.args.task.now c.args.board.now c.args.at c.args.spot c.requires.of c.args.rule c.requires.kind c.rule.result.now c.rule.ensures.value c.rule.ensures.body

pub returns-clause-answer : goal.returns-clause-answer
returns-clause-answer c =
    body_ends c.args.task.now c.args.board.now c.args.at c.args.spot c.requires.of c.args.rule c.requires.kind c.rule.result.now c.rule.ensures.value c.rule.ensures.body
    c.look.new.board c.in_ok-ends.ends c.in_ok-ends.ensures.sees c.in_ok-ends.ensures.right
