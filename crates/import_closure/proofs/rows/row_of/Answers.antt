use Rattle.std.proofs.Common.{sym, subst}
use Rattle.rule_reader.specs.Sets.{IsRow}
use Rattle.import_closure.specs.code.Rows.{IsDocOf}
use Rattle.import_closure.proofs.RowLemmas.{row_of_none}
use Rattle.import_closure.proofs.rows.row_of.Goals as goal

pub returns-in-None : goal.returns-in-None
returns-in-None c =
    subst (IsRow c.args.set.now c.args.x.0) (sym c.new.ensures.items)
    (row_of_none c.args.set.now c.args.x.0 c.doc-one.result.now c.doc-one.ensures (subst (IsDocOf c.doc-one.result.now.text) c.in-None.is c.in_ok-doc.ensures))
