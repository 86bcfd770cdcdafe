use Rattle.std.proofs.Common.{◌≡◌}
use Rattle.linker.specs.Targets.{rules_before}
use Rattle.linker.specs.code.Tables.{AreFirstTables}
use Rattle.linker.proofs.tables.tables_of.Given as goal

abbrev pub invariant-loop-reading : goal.invariant-loop-reading
invariant-loop-reading l = record {
  tables : AreFirstTables l.docs l.reading-index l.tables.items;
  rules : l.rules ≡ rules_before l.docs l.reading-index;
}
