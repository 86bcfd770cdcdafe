use Rattle.version_shelf.proofs.Noted.{of_cell, names_after, facts_after}
use Rattle.version_shelf.proofs.cells.fill_at.Goals as goal

pub fill-requires : goal.fill-requires
fill-requires g c =
    rw c.again-note.ensures.1 (of_cell c.args.notes.now.items c.args.cells.now.items c.args.k c.index_mut.result.now c.index.result.now c.requires.1 c.requires.0 c.index_mut.ensures.value c.index.ensures)

pub returns-in-Ok-clause-names : goal.returns-in-Ok-clause-names
returns-in-Ok-clause-names g c =
    names_after c.args.notes.now.items c.args.k c.index_mut.result.now c.again-note.new.self c.in-Ok.note c.index_mut.ensures.value c.again-note.ensures.0 (rw (← c.again-note.ensures.1) c.in-Ok.ensures.0)

pub returns-in-Ok-clause-known : goal.returns-in-Ok-clause-known
returns-in-Ok-clause-known g c =
    facts_after c.args.notes.now.items c.args.k c.index_mut.result.now c.again-note.new.self c.in-Ok.note c.args.value c.index_mut.ensures.value c.again-note.ensures.0 c.in-Ok.ensures.1
