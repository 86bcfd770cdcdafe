-- What the server keeps, as the definition of the answers has it.
use Rattle.std.specs.Prelude.{ℕ, ◌+◌, List, Option, None, Some}
use Rattle.server_shell.specs.declared.first_form.command.Command.{Command}
use Rattle.server_shell.specs.declared.first_form.command.Command.TheVariants as command
use Rattle.server_shell.specs.declared.first_form.hearing.Heard.{Heard}
use Rattle.server_shell.specs.declared.first_form.hearing.Heard.TheVariants as heard
use Rattle.server_shell.specs.declared.first_form.reply.Body.{Body}
use Rattle.server_shell.specs.declared.first_form.reply.Body.TheVariants as body

-- a document: its key and its text
pub record KeyedText : Type 0 where
  pub uri : List ℕ
  pub text : List ℕ

pub record State : Type 0 where
  pub staged : Option KeyedText
  pub published : Option KeyedText
  pub version : ℕ

-- at the beginning nothing is staged, and the version is 0
abbrev pub start : State
start = record { staged = None; published = None; version = 0 }

-- What is kept after a command with this reply: a put that is staged stages its pair, a publish
-- that is published publishes what is staged under the next number, and all else changes nothing.
abbrev pub after_command : State → Command → Body → State
after_command s (command.Put uri text) body.Staged = record {
  staged = Some (record { uri = uri; text = text });
  published = s.published;
  version = s.version;
}
after_command s (command.Publish entries) (body.Published version documents) = record {
  staged = s.staged;
  published = s.staged;
  version = s.version + 1;
}
after_command s _ _ = s

-- nothing is kept of a line that says no command
abbrev pub after_heard : State → Heard → Body → State
after_heard s (heard.Said c) b = after_command s c b
after_heard s heard.Long b = s
after_heard s heard.Unknown b = s
