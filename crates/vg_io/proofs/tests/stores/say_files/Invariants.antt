-- The names stay listed.
use Rattle.vg_io.specs.Stores.{AreListed}
use Rattle.vg_io.proofs.tests.stores.say_files.Given as goal

abbrev pub invariant-loop-name : goal.invariant-loop-name
invariant-loop-name g l = AreListed (g.T.Store.told l.store) l.names.items
