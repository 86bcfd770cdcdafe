-- What a line tells of the reply that it shows.
use Rattle.std.specs.Prelude.{◌≡◌, ℕ, List, [], ◌∷◌, ◌++◌}
use Rattle.std.specs.List.{Contains}
use Rattle.json_reply.specs.Kept.{IsKept, IsShallow}
use Rattle.json_reply.specs.Line.{reply_line}
use Rattle.json_reply.specs.declared.reply.Reply.{Reply}

-- replies with one line are one
abbrev pub LinesTellReplies : Type 0
LinesTellReplies = (this that : Reply) → IsKept this → IsKept that → IsShallow this → IsShallow that
    → reply_line this ≡ reply_line that → this ≡ that

-- the line feed is the last byte, and no byte before it
pub record EndsOnce (line : List ℕ) : Type 0 where
  pub front : List ℕ
  pub whole : line ≡ front ++ 10 ∷ []
  pub one : ¬ Contains front 10

abbrev pub LinesEndOnce : Type 0
LinesEndOnce = (reply : Reply) → IsKept reply → EndsOnce (reply_line reply)
