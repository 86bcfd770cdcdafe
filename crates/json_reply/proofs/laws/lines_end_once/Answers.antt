use Rattle.std.proofs.Common.{refl}
use Rattle.serde_json.specs.Written.{compact_text}
use Rattle.json_reply.specs.Line.{reply_json}
use Rattle.json_reply.proofs.OneFeed.{no_feed, no_feed_in}
use Rattle.json_reply.proofs.Whole.{reply_whole}
use Rattle.json_reply.proofs.laws.lines_end_once.Goals as goal

pub returns : goal.returns
returns c = λ reply kept. record {
  front = compact_text (reply_json reply);
  whole = refl;
  one = no_feed_in (compact_text (reply_json reply)) (no_feed (reply_json reply) (reply_whole reply kept));
}
