use Rattle.std.proofs.Common.{◌≡◌, ◌+◌, take}
use Rattle.linker.specs.code.Tables.{AreNamed}
use Rattle.linker.proofs.tables.names_of.Given as goal

abbrev pub invariant-loop-rule : goal.invariant-loop-rule
invariant-loop-rule l = record {
  named : AreNamed l.before (take l.rule-index l.rules) l.names;
  at : l.at ≡ l.before + l.rule-index;
}
