use Rattle.std.proofs.Common.{length}
use Rattle.linker.proofs.WholeDocuments.{DocumentsSoFar}
use Rattle.linker.proofs.documents.lay_documents.Given as goal

abbrev pub invariant-loop-place : goal.invariant-loop-place
invariant-loop-place l = DocumentsSoFar l.library.set.now l.fn.docs.items (length l.yielded) l.initial.whole l.whole
