-- A front of the piece was written, and no write has failed.
use Rattle.std.proofs.Common.{◌≡◌, length, ◌-◌, ◌≤◌, take}
use Rattle.std.specs.Io.KnownBytes.{Appends}
use Rattle.vg_io.specs.Sinks.{IsFrontOf, ShowsWritten}
use Rattle.vg_io.proofs.whole.write_all.Given as goal

abbrev pub invariant-loop-done : goal.invariant-loop-done
invariant-loop-done g l = let before = g.K.Sink.told l.initial.sink in
    let now = g.K.Sink.told l.sink in record {
      within : l.done ≤ length l.piece;
      bytes : Appends before.written now.written (take l.done l.piece);
      shown : IsFrontOf before.shown now.shown;
      front : ShowsWritten before → ShowsWritten now;
      faults : now.faults ≡ before.faults;
    }

abbrev pub decreases-loop-done : goal.decreases-loop-done
decreases-loop-done g l = length l.piece - l.done
