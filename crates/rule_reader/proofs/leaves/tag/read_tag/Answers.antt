use Rattle.rule_reader.proofs.ReadLeaves.{tag_read}
use Rattle.rule_reader.proofs.leaves.tag.read_tag.Goals as goal

pub returns : goal.returns
returns c = tag_read c.args.span c.in_ok-inside.ensures c.in_ok-script.ensures
