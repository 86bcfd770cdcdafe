-- What the server answers in the first form: each line is a batch.
use Rattle.std.specs.Prelude.{◌≡◌, ℕ, true, option_map}
use Rattle.server_shell.specs.declared.first_form.keeper.HeardLine.{HeardLine}
use Rattle.server_shell.specs.declared.first_form.reply.Reply.{Reply}
use Rattle.server_shell.specs.ItemRules.{ItemRule, BatchAnswers, after_batch}
use Rattle.server_shell.specs.Service.{Service}
use Rattle.server_shell.specs.first_form.Hearing.{hears}
use Rattle.server_shell.specs.first_form.State.{State, start, after_heard}
use Rattle.server_shell.specs.first_form.Replies.{HeardReplies}

-- a line's one reply, which has the line's number
pub record LineAnswers (s : State) (line : HeardLine) (reply : Reply) : Type 0 where
  pub number : reply.line ≡ line.number
  pub body : HeardReplies s line.heard reply.body

abbrev pub each_line : ItemRule State HeardLine Reply
each_line = record {
  answers = λ start end before line reply. LineAnswers before line reply;
  after = λ before line reply. after_heard before line.heard reply.body;
}

abbrev pub first_form : Service State ℕ HeardLine Reply
first_form = record {
  start = start;
  read = λ number line.
      option_map (λ heard. record { number = number; heard = heard }) (hears line);
  division = record { first = 0; next = λ count line. count; ends = λ count line. true };
  answers = BatchAnswers each_line;
  after = after_batch each_line;
}
