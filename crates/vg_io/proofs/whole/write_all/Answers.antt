-- One more front of the piece was written, or a write failed.
use Rattle.std.proofs.Common.{ap, ◌∙◌, subst}
use Rattle.std.specs.Io.KnownBytes.{Appends}
use Rattle.std.proofs.KnownBytes.{Appends-kept, Appends-trans}
use Rattle.vg_io.specs.Faults.{counted}
use Rattle.vg_io.proofs.Bytes.{piece_more, within_more}
use Rattle.vg_io.proofs.Showing.{front_longer}
use Rattle.vg_io.proofs.whole.write_all.Goals as goal

pub loop-done-preserved : goal.loop-done-preserved
loop-done-preserved g c = record {
  within = within_more c.args.piece.now c.loop-done.done _ c.loop-done.invariant.within
      c.in-Ok.ensures.bound;
  bytes =
      subst (Appends _ _) (piece_more c.args.piece.now c.loop-done.done _)
      (Appends-trans _ _ _ _ _ c.loop-done.invariant.bytes c.in-Ok.ensures.writes.bytes);
  shown = front_longer _ _ _ c.loop-done.invariant.shown c.in-Ok.ensures.writes.shown;
  front = λ _. c.in-Ok.ensures.writes.within;
  faults = c.in-Ok.ensures.writes.faults ∙ c.loop-done.invariant.faults;
}

pub returns-in-Err : goal.returns-in-Err
returns-in-Err g c = record {
  whole = tt;
  part = (
    c.loop-done.done,
    c.loop-done-test.true,
    Appends-kept _ _ _ _ c.loop-done.invariant.bytes c.in-Err.ensures.writes.bytes,
  );
  shown = front_longer _ _ _ c.loop-done.invariant.shown c.in-Err.ensures.writes.shown;
  within = λ _. c.in-Err.ensures.writes.within;
  faults = c.in-Err.ensures.writes.faults ∙ ap counted c.loop-done.invariant.faults;
}
