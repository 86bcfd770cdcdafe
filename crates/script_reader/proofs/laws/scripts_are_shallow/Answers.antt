use Rattle.script_reader.proofs.Depths.{shallow}
use Rattle.script_reader.proofs.laws.scripts_are_shallow.Goals as goal

pub returns : goal.returns
returns c = shallow
