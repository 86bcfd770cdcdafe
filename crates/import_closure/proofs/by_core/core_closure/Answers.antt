use Rattle.import_closure.proofs.CoreLemmas.{is_closure}
use Rattle.import_closure.proofs.by_core.core_closure.Goals as goal

pub returns : goal.returns
returns c =
    is_closure c.args.set.now c.in_ok-imports.imports c.args.entries.now c.in_ok-docs.docs.items c.in_ok-core.core.docs (c.in_ok-imports.ensures, c.in_ok-core.ensures.closure)
    c.in_ok-docs.ensures.rising c.in_ok-docs.ensures.exact
