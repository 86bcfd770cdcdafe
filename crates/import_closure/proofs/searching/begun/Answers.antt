use Rattle.import_closure.proofs.ReachLemmas.{begun_with_none}
use Rattle.import_closure.proofs.searching.begun.Goals as goal

pub returns : goal.returns
returns c = λ set sized. begun_with_none c.args.docs set c.args.entries.now c.in_ok-reach.reach c.meet_all.new.self c.in_ok-reach.ensures sized c.in_ok-meet_all.ensures
