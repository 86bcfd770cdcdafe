use Rattle.std.proofs.Common.{List, [], Option, sym, subst}
use Rattle.linker.specs.declared.tables.Known.{Known}
use Rattle.linker.specs.Readings.{Readings, missing}
use Rattle.linker.specs.SetFaults.{entry_faults}
use Rattle.linker.specs.code.Tables.{AreTables}
use Rattle.linker.proofs.LinkedAnswer as answer
use Rattle.linker.proofs.publication.link.Goals as goal

pub lay_documents-requires : goal.lay_documents-requires
lay_documents-requires c = record {
  keyed = c.requires.keyed;
  sized = c.requires.readings.sized;
  tables = subst (λ (tables : List (Option Known)). AreTables c.args.docs.items tables) (sym c.deref-2.ensures.value)
      (subst (λ (docs : Readings). AreTables docs c.in_ok-tables.tables.items) c.deref.ensures.value c.in_ok-tables.ensures);
  resolvable = answer.resolvable c.args.set.now c.args.entries.now c.args.docs.items c.requires.readings c.references_can_be_resolved.ensures;
}

pub judge-requires : goal.judge-requires
judge-requires c = (
  c.args.entries.now,
  c.args.docs.items,
  record {
    readings = c.requires.readings;
    are_tables = subst (λ (docs : Readings). AreTables docs c.in_ok-tables.tables.items) c.deref.ensures.value c.in_ok-tables.ensures;
    is_whole = c.in_ok-whole.ensures (entry_faults (missing c.args.set.now c.args.entries.now)) (c.in_ok-tell_entries.ensures [] c.new-faults.ensures);
  },
)
