-- The laws of batches are lemmas on their definitions.
use Rattle.std.proofs.lemmas.List.Elements.{recursion_from_All, All-from_recursion}
use Rattle.server_shell.proofs.Divisions.{whole_given, all_given, all_divided, items_all}
use Rattle.server_shell.proofs.laws.batches_are_cut_at_ends.Goals as goal

pub returns-clause-cut : goal.returns-clause-cut
returns-clause-cut g c d xs =
    let cut = all_divided d xs in (cut.rest, cut.is_open, All-from_recursion _ _ cut.each, cut.same)

pub returns-clause-whole : goal.returns-clause-whole
returns-clause-whole g c d batches rest all is =
    whole_given d batches rest (recursion_from_All _ batches all) is

pub returns-clause-all : goal.returns-clause-all
returns-clause-all g c d batches rest all is =
    all_given d batches rest (recursion_from_All _ batches all) is

pub returns-clause-items : goal.returns-clause-items
returns-clause-items g c d xs = items_all d xs d.first
