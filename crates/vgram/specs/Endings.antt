-- What is told on standard error as the program ends.
use Rattle.std.specs.Prelude.{ℕ, List, [], codes}
use Rattle.server_shell.specs.declared.outcome.Status.{Status}
use Rattle.server_shell.specs.declared.outcome.Status.TheVariants as status

-- the line on standard error, without its line feed; none at Done
abbrev pub error_line : Status → List ℕ
error_line status.Done = []
error_line status.Usage = codes "vgram: usage: vgram"
error_line status.ReadFault = codes "vgram: read fault"
error_line status.WriteFault = codes "vgram: write fault"
error_line status.Memory = codes "vgram: out of memory"
error_line status.InputOver = codes "vgram: input too long"
