use Rattle.vg_base.proofs.LongestRuns.{run_counted, run_len}
use Rattle.vg_base.proofs.runs.runs_are_counted.Goals as goal

pub returns : goal.returns
returns c = record { run = run_counted; counted = run_len }
