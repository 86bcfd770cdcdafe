use Rattle.import_closure.proofs.ReachLemmas.{next_within, row_fits, turn}
use Rattle.import_closure.proofs.searching.searched.Goals as goal

pub row_of-requires-clause-place : goal.row_of-requires-clause-place
row_of-requires-clause-place c = next_within c.args.set.now c.args.entries.now c.in-Some.x c.loop-x.reach c.next.new.self c.loop-x.invariant c.in-Some.ensures.some

pub meet_all-requires : goal.meet_all-requires
meet_all-requires c =
    row_fits c.args.set.now c.args.entries.now c.in_ok-row.row.items c.deref.result.now c.in-Some.x c.loop-x.reach c.next.new.self (c.loop-x.invariant, c.in-Some.ensures.some)
    (c.in_ok-row.ensures, c.deref.ensures.value)

pub loop-x-preserved : goal.loop-x-preserved
loop-x-preserved c =
    turn c.args.set.now c.args.entries.now c.in_ok-row.row.items c.deref.result.now c.in-Some.x c.loop-x.reach c.next.new.self c.meet_all.new.self
    (c.loop-x.invariant, c.in-Some.ensures.some) (c.in_ok-row.ensures, c.deref.ensures.value) c.in_ok-meet_all.ensures
