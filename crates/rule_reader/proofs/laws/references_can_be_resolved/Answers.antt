use Rattle.rule_reader.proofs.ResolvableLemmas.{resolvable}
use Rattle.rule_reader.proofs.laws.references_can_be_resolved.Goals as goal

pub returns : goal.returns
returns c = resolvable
