use Rattle.std.proofs.Common.{◌≡◌, drop}
use Rattle.std.specs.Prelude.{find}
use Rattle.build_core.specs.Next.{is_unseen_in}
use Rattle.build_core.proofs.core_state.CoreState.first_unseen.Given as goal

abbrev pub invariant-loop-doc : goal.invariant-loop-doc
invariant-loop-doc l = find (is_unseen_in l.self.docs) l.row ≡ find (is_unseen_in l.self.docs) (drop l.doc-index l.row)
