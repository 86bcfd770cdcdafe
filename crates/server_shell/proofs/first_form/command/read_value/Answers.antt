-- A line's JSON value, or that there is none.
use Rattle.serde_json.specs.View.{view}
use Rattle.server_shell.proofs.first_form_lemmas.Reading.{value_of-read, value_of-none}
use Rattle.server_shell.proofs.first_form.command.read_value.Goals as goal

pub returns-in-Ok-clause-value : goal.returns-in-Ok-clause-value
returns-in-Ok-clause-value c = value_of-read c.args.line.now
    (view c.in-Ok.value) c.in-Ok.ensures.ok.0 c.in-Ok.ensures.ok.1

pub returns-in_default-clause-none : goal.returns-in_default-clause-none
returns-in_default-clause-none c = λ _. value_of-none c.args.line.now
    (c.in-Err.ensures.err (λ h. c.in_default.not-Memory (c.classify.ensures.memory.1 h)))
