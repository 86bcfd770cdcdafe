use Rattle.tag_script.proofs.Looking.{all_leave}
use Rattle.tag_script.proofs.laws.looking_changes_nothing.Goals as goal

pub returns : goal.returns
returns c = λ script env after looks e. all_leave script.body looks env after e
