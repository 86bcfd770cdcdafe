use Rattle.std.proofs.Common.{◌≡◌, ◌-◌, ◌≤◌, map}
use Rattle.version_shelf.specs.Known.{facts}
use Rattle.version_shelf.proofs.cells.newest.Given as goal

abbrev pub invariant-loop-at : goal.invariant-loop-at
invariant-loop-at g l = record {
  least : l.last ≤ l.at;
  most : l.at ≤ l.top;
  names : map (λ m. m.cell) l.notes.items ≡ map (λ m. m.cell) l.fn.notes.items;
  same : facts l.notes.items ≡ facts l.fn.notes.items;
}

abbrev pub decreases-loop-at : goal.decreases-loop-at
decreases-loop-at g l = l.at - l.last
