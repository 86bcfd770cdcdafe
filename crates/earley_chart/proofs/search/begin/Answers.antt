use Rattle.earley_chart.proofs.BegunBoards.{begun}
use Rattle.earley_chart.proofs.search.begin.Goals as goal

pub returns : goal.returns
returns c = begun c.args.task.now c.new-board.result c.meet.new.self c.rule.result.now c.rule_count-linked.ensures.linked c.requires.few c.rule.ensures.value c.rule.ensures.body
    c.new-board.ensures.none c.in_ok-meet.ensures.whole c.in_ok-meet.ensures.grows c.new-board.ensures.whole (c.in_ok-meet.field-0, c.in_ok-meet.ensures.met) c.in_ok-meet.ensures.other
