use Rattle.import_closure.proofs.RowLemmas.{row_exact}
use Rattle.import_closure.proofs.rows.row_by.Goals as goal

pub returns-clause-exact : goal.returns-clause-exact
returns-clause-exact c =
    row_exact c.args.keys.now.keys c.args.docs.now c.in_ok-marks.marks.items c.deref.result.now c.in_ok-row.row.items c.in_ok-marks.ensures c.deref.ensures.value c.in_ok-row.ensures.exact
