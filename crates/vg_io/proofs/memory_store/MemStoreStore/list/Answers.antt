-- The names of the files are listed.
use Rattle.vg_io.proofs.Naming.{find-name}
use Rattle.vg_io.proofs.memory_store.MemStoreStore.list.Goals as goal

pub returns-clause-listed : goal.returns-clause-listed
returns-clause-listed c k d below =
    find-name c.self.inside.files c.in_ok-names.names.items c.in_ok-names.ensures.keys k d below
