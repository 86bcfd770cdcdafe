use Rattle.std.proofs.Common.{◌≡◌}
use Rattle.linker.specs.code.Indexes.{names_in}
use Rattle.linker.proofs.publication.indexes_of.Given as goal

abbrev pub invariant-loop-table : goal.invariant-loop-table
invariant-loop-table l = l.indexes ≡ names_in l.yielded
