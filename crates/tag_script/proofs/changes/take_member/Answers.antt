use Rattle.std.proofs.Common.{ap, ◌∙◌}
use Rattle.vg_base.specs.Pairs.{put}
use Rattle.tag_script.proofs.Putting.{put-without}
use Rattle.tag_script.proofs.changes.take_member.Goals as goal

-- src/changes.rt:170:1
pub returns-clause-again : goal.returns-clause-again
returns-clause-again c = λ x. ap (put c.args.key.now x) c.remove.ensures.rest ∙ put-without c.args.key.now x c.args.members.now c.is_empty.ensures.rising
