use Rattle.std.proofs.Common.{◌≡◌, map, vec_len, None, replicate}
use Rattle.once_cell.specs.Once.{cell_name}
use Rattle.version_shelf.specs.Known.{facts}
use Rattle.version_shelf.proofs.cells.empty_cells.Given as goal

abbrev pub invariant-loop : goal.invariant-loop
invariant-loop g l = record {
  cells : vec_len l.cells ≡ l.counter;
  names : map (λ m. m.cell) l.notes.items ≡ map cell_name l.cells.items;
  empty : facts l.notes.items ≡ replicate l.counter None;
}
