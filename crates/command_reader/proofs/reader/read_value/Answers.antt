use Rattle.std.proofs.Common.{sym}
use Rattle.serde_json.specs.View.{view}
use Rattle.command_reader.proofs.Reading.{value_of-read, value_of-none}
use Rattle.command_reader.proofs.reader.read_value.Goals as goal

pub returns-in-Ok : goal.returns-in-Ok
returns-in-Ok c = sym (value_of-read c.args.line.now (view c.in-Ok.value) c.in-Ok.ensures.ok.0 c.in-Ok.ensures.ok.1)

pub returns-in_default : goal.returns-in_default
returns-in_default c = sym (value_of-none c.args.line.now (c.in-Err.ensures.err (λ h. c.in_default.not-Memory (c.classify.ensures.memory.1 h))))
