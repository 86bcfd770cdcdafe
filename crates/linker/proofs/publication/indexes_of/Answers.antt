use Rattle.std.proofs.Common.{rules, map-id, List, [], ◌∷◌, ◌++◌, Option, sym, ap, ◌∙◌}
use Rattle.std.proofs.lemmas.Iterator.Consumers.{YieldsList-end}
use Rattle.std.proofs.lemmas.Iterator.Adapters.{YieldsList-from_vec}
use Rattle.linker.specs.declared.tables.Known.{Known}
use Rattle.linker.specs.code.Indexes.{Index, names_in}
use Rattle.linker.proofs.IndexTables.{names_some, names_none}
use Rattle.linker.proofs.publication.indexes_of.Goals as goal

pub loop-table-preserved : goal.loop-table-preserved
loop-table-preserved c =
    c.loop-table.invariant ∙ sym (names_none c.loop-table.yielded) ∙ ap (λ (table : Option Known). names_in (c.loop-table.yielded ++ table ∷ [])) (sym c.in_default.is)

pub loop-table-preserved-in-Continue-1 : goal.loop-table-preserved-in-Continue-1
loop-table-preserved-in-Continue-1 c =
    c.in_ok-push.ensures.ok ∙ ap (λ (indexes : List Index). indexes ++ c.in-Some-table.known.names ∷ []) c.loop-table.invariant
    ∙ sym (names_some c.loop-table.yielded c.in-Some-table.known) ∙ ap (λ (table : Option Known). names_in (c.loop-table.yielded ++ table ∷ [])) (sym c.in-Some-table.is)

pub returns : goal.returns
returns c =
    let end = YieldsList-end (YieldsList-from_vec {s = c.into_iter-table-iterator.result} c.args.tables.items (search rules) (search rules))
    c.loop-table.yielded c.loop-table.table-iterator c.loop-table.yielded_by c.next.result c.next.new.self c.in-None.is c.next.ensures.steps in
    rw (← end.0, map-id) c.loop-table.invariant
