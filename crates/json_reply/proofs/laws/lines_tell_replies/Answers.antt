use Rattle.json_reply.proofs.Tells.{lines_tell}
use Rattle.json_reply.proofs.laws.lines_tell_replies.Goals as goal

pub returns : goal.returns
returns c = lines_tell
