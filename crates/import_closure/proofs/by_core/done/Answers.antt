use Rattle.import_closure.proofs.CoreLemmas.{done_exact}
use Rattle.import_closure.proofs.by_core.done.Goals as goal

pub returns-clause-exact : goal.returns-clause-exact
returns-clause-exact c =
    done_exact c.args.core.now.docs c.in_ok-marks.marks.items c.deref.result.now c.in_ok-docs.docs.items c.in_ok-marks.ensures c.deref.ensures.value c.in_ok-docs.ensures.exact
