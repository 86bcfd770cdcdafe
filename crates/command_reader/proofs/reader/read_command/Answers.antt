use Rattle.serde_json.specs.View.{view}
use Rattle.command_reader.proofs.Kept.{gives_called}
use Rattle.command_reader.proofs.Utf8.{HasTexts-view}
use Rattle.command_reader.proofs.reader.read_command.Goals as goal

pub returns-in-Some-clause-called : goal.returns-in-Some-clause-called
returns-in-Some-clause-called c = gives_called c.called.result (view c.in-Some.value) (HasTexts-view c.in-Some.value) c.called.ensures
