-- What the server of the first form keeps, and its reply to one line.
use Rattle.std.specs.Prelude.{◌≡◌, ℕ}
use Rattle.server_shell.specs.declared.first_form.keeper.HeardLine.{HeardLine}
use Rattle.server_shell.specs.declared.first_form.reply.Reply.{Reply}
use Rattle.server_shell.specs.Service.{BetweenLines}
use Rattle.server_shell.specs.first_form.Answers.{LineAnswers}
use Rattle.server_shell.specs.first_form.State.{State, after_heard}

pub record Keeping : Type 0 where
  pub kept : BetweenLines State HeardLine
  pub last : ℕ

-- a reply that the line may have, and what is kept behind it
pub record AnswersOne (old new : State) (line : HeardLine) (reply : Reply) : Type 0 where
  pub answers : LineAnswers old line reply
  pub after : new ≡ after_heard old line.heard reply.body
