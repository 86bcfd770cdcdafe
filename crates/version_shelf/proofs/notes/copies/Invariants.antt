use Rattle.std.proofs.Common.{◌≡◌, take}
use Rattle.version_shelf.proofs.notes.copies.Given as goal

abbrev pub invariant-loop-i : goal.invariant-loop-i
invariant-loop-i g l = record {
  same : l.notes.items ≡ l.fn.notes.items;
  copied : l.out.items ≡ take l.i l.fn.notes.items;
}
