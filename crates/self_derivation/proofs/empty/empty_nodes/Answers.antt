use Rattle.self_derivation.proofs.SearchLemmas.{search_exact}
use Rattle.self_derivation.proofs.empty.empty_nodes.Goals as goal

pub returns-clause-exact : goal.returns-clause-exact
returns-clause-exact c = rw c.into_told.ensures (search_exact c.args.linked.now c.in_ok-search.search c.in_ok-search.ensures.search c.in_ok-search.ensures.ended)
