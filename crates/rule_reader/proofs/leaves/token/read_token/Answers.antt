use Rattle.rule_reader.proofs.ReadLeaves.{token_read}
use Rattle.rule_reader.proofs.leaves.token.read_token.Goals as goal

pub returns : goal.returns
returns c = token_read c.args.span c.in_ok-inside.ensures c.in_ok-token.ensures
