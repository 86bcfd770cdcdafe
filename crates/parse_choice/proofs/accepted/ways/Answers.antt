use Rattle.std.proofs.Common.{◌+◌, arith}
use Rattle.parse_choice.proofs.WaySets.{no_ways, one_way_more, all_ways, ways_end}
use Rattle.parse_choice.proofs.accepted.ways.Goals as goal

pub loop-init : goal.loop-init
loop-init c = λ line. no_ways c.args.chart.now line c.args.inner c.args.ends c.new-ways.result c.new-ways.ensures

pub loop-preserved : goal.loop-preserved
loop-preserved c = λ line. one_way_more c.args.chart.now line c.args.inner c.args.ends c.loop.ways c.push.new.self c.loop.set c.before-set.result c.loop.counter (c.loop.invariant line) c.in_ok-push.ensures.ok c.before-set.ensures

pub returns-then-is_empty : goal.returns-then-is_empty
returns-then-is_empty c =
    ways_end c.args.chart.now c.requires c.args.inner c.args.ends c.push.new.self c.before-set.result (c.loop.counter + 1)
    (one_way_more c.args.chart.now c.requires c.args.inner c.args.ends c.loop.ways c.push.new.self c.loop.set c.before-set.result c.loop.counter (c.loop.invariant c.requires) c.in_ok-push.ensures.ok c.before-set.ensures)
    (omega arith) (omega arith) (c.is_empty.ensures.none c.if-is_empty.true)

pub returns : goal.returns
returns c = all_ways c.args.chart.now c.requires c.args.inner c.args.ends c.loop.ways c.loop.set c.loop.counter (c.loop.invariant c.requires) (omega arith)
