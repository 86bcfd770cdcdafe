use Rattle.grammar_tree.proofs.WrittenNodes.{nodes_within}
use Rattle.grammar_tree.proofs.laws.nodes_are_within_size.Goals as goal

pub returns : goal.returns
returns c = nodes_within
