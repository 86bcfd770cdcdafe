use Rattle.std.proofs.Common.{take}
use Rattle.import_closure.specs.code.Keyed.{HaveKeys}
use Rattle.import_closure.proofs.keyed.have_keys.Given as goal

abbrev pub invariant-loop-doc : goal.invariant-loop-doc
invariant-loop-doc l = HaveKeys (take l.doc-index l.docs)
