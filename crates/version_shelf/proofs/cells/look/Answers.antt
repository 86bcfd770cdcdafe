use Rattle.std.proofs.Common.{◌∙◌, ap, arith}
use Rattle.std.proofs.Math.Seq.{map-set_same}
use Rattle.version_shelf.proofs.Noted.{of_cell, looked, notes_length}
use Rattle.version_shelf.proofs.cells.look.Goals as goal

pub get_as-requires : goal.get_as-requires
get_as-requires g c = of_cell c.args.notes.now.items c.args.cells.now.items c.args.k c.index_mut.result.now c.index.result.now c.requires.1 c.requires.0 c.index_mut.ensures.value c.index.ensures

pub returns-clause-names : goal.returns-clause-names
returns-clause-names g c = map-set_same (λ n. n.cell) c.args.notes.now.items c.args.k c.get_as.new.note c.index_mut.result.now (c.get_as.ensures.cell ∙ ap (λ n. n.cell) c.index_mut.ensures.value)

pub returns-clause-value : goal.returns-clause-value
returns-clause-value g c =
    let len = notes_length c.args.notes.now.items c.args.cells.now.items c.requires.1 in
    looked c.args.notes.now.items c.args.k c.index_mut.result.now c.get_as.new.note c.get_as.result c.index_mut.ensures.value (let h = c.requires.0 in omega arith) c.get_as.ensures.value
