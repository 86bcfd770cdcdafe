-- How far the run has come, what its source has said, and where replies went.
use Rattle.std.proofs.Common.{◌+◌, ◌-◌, ◌≤◌, ◌<◌, length}
use Rattle.vg_io.specs.declared.limits.TheConstants.{INPUT_LIMIT}
use Rattle.vg_io.specs.Reader.{reading_from}
use Rattle.server_shell.specs.Batching.{IsOpen}
use Rattle.server_shell.specs.Served.{outside}
use Rattle.server_shell.specs.code.Turning.{hold}
use Rattle.server_shell.proofs.Progress.{Progress}
use Rattle.server_shell.proofs.Sources.{Steady}
use Rattle.server_shell.proofs.Writing.{Held}
use Rattle.server_shell.proofs.run.run_batches.Given as goal

abbrev pub invariant-loop-number : goal.invariant-loop-number
invariant-loop-number g l =
    let service = g.B.Batches.service in
    let delivery = g.D.Delivers.delivery in
    let told = g.S.Source.told in record {
      progress : Progress service delivery (IsOpen service.division)
          (outside (told l.initial.source) l.initial.out)
          (record {
            intake = reading_from l.reader (told l.source);
            hold = hold (g.B.Batches.kept l.batches) l.out;
            number = l.number;
          });
      steady : Steady (told l.initial.source) (reading_from l.reader (told l.source));
      held : Held service delivery (outside (told l.initial.source) l.initial.out) l.out;
      counts : l.number + length l.reader.held ≤ l.reader.taken + 1;
      last : g.B.Batches.last l.batches < l.number;
    }

abbrev pub decreases-loop-number : goal.decreases-loop-number
decreases-loop-number g l = (INPUT_LIMIT + 2 - l.reader.taken) + length l.reader.held
