use Rattle.rule_reader.proofs.ReadLeaves.{name_read}
use Rattle.rule_reader.proofs.leaves.name.read_name.Goals as goal

pub returns : goal.returns
returns c = name_read c.args.span c.in_ok-name.name c.in_ok-name.ensures c.named.ensures
