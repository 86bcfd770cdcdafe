use Rattle.import_closure.proofs.ReachLemmas.{is_closure}
use Rattle.import_closure.proofs.searching.closure.Goals as goal

pub returns : goal.returns
returns c =
    is_closure c.args.set.now c.args.entries.now c.in_ok-docs.docs.items c.in_ok-reach.reach c.in_ok-reach.ensures.within c.in_ok-reach.ensures.ended c.in_ok-docs.ensures.rising
    c.in_ok-docs.ensures.exact
