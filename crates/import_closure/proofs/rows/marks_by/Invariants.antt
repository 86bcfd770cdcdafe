use Rattle.std.proofs.Common.{◌≡◌, take}
use Rattle.import_closure.specs.code.Rows.{marks_by}
use Rattle.import_closure.proofs.rows.marks_by.Given as goal

abbrev pub invariant-loop-doc : goal.invariant-loop-doc
invariant-loop-doc l = l.marks.items ≡ marks_by l.keys.keys (take l.doc-index l.docs)
