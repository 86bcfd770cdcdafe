use Rattle.grammar_tree.proofs.Fronts.{reached_is_in_range}
use Rattle.grammar_tree.proofs.laws.reached_nodes_are_nodes.Goals as goal

pub returns : goal.returns
returns c = reached_is_in_range
