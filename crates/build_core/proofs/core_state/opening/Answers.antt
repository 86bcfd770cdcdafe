-- One entry more is wanted.
use Rattle.std.proofs.Common.{◌<◌, ◌∙◌, refl, arith}
use Rattle.std.specs.Prelude.{slice_index_or}
use Rattle.std.proofs.Math.ListN.{length-set}
use Rattle.build_core.specs.Rows.{ix}
use Rattle.build_core.specs.declared.event.DocState.TheVariants.{Wanted}
use Rattle.build_core.proofs.Opens.{wanted_more, others_more}
use Rattle.build_core.proofs.core_state.opening.Goals as goal

pub index_mut-requires : goal.index_mut-requires
index_mut-requires c =
    let inside = c.requires c.loop-entry.entry-index (ix 0) c.loop-entry-test.true in
    let len = c.loop-entry.invariant.len in
    let ok = c.loop-entry.docs.ok.0 in
    omega arith

pub loop-entry-preserved : goal.loop-entry-preserved
loop-entry-preserved c =
    let e = slice_index_or c.args.entries.now c.loop-entry.entry-index (ix 0) in
    let inside = c.requires c.loop-entry.entry-index (ix 0) c.loop-entry-test.true in
    let len = c.loop-entry.invariant.len in record {
      len = length-set c.loop-entry.docs.items e.0 Wanted ∙ len;
      wanted = wanted_more c.loop-entry.docs.items c.args.entries.now c.loop-entry.entry-index e refl c.loop-entry-test.true (omega arith) c.loop-entry.invariant.wanted;
      others = others_more c.loop-entry.docs.items c.args.entries.now c.loop-entry.entry-index e refl c.loop-entry-test.true (omega arith) c.loop-entry.invariant.others;
    }
