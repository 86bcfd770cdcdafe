use Rattle.command_reader.proofs.ReadBack.{read_back}
use Rattle.command_reader.proofs.laws.commands_are_read_back.Goals as goal

pub returns : goal.returns
returns c = λ called h. read_back called.area.0 called.command h
