use Rattle.std.proofs.Common.{◌+◌, ◌∙◌, sym, ap, subst}
use Rattle.linker.specs.Targets.{rule_count}
use Rattle.linker.specs.code.Tables.{AreFirstTables, IsTable}
use Rattle.linker.proofs.TableLemmas.{rules_next, tables_next}
use Rattle.linker.proofs.tables.tables_of.Goals as goal

pub loop-reading-preserved : goal.loop-reading-preserved
loop-reading-preserved c =
    let docs = c.args.docs.now in
    let i = c.loop-reading.reading-index in
    let reading = c.reading-item.result in
    let table = subst (λ n. IsTable n reading c.in_ok-table.table) c.loop-reading.invariant.rules c.in_ok-table.ensures in
    record {
      tables = subst (AreFirstTables docs (i + 1)) (sym c.in_ok-push.ensures.items)
          (tables_next reading c.in_ok-table.table c.loop-reading.invariant.tables (c.loop-reading-test.true, c.reading-item.is, table));
      rules = c.in_ok-rules.ensures ∙ ap (λ n. n + rule_count reading) c.loop-reading.invariant.rules ∙ sym (rules_next docs i reading c.loop-reading-test.true c.reading-item.is);
    }
