use Rattle.grammar_tree.proofs.Orderly.{in_order}
use Rattle.grammar_tree.proofs.Sorting.{finitely_many}
use Rattle.grammar_tree.proofs.laws.trees_are_in_order.Goals as goal

pub returns-clause-order : goal.returns-clause-order
returns-clause-order c = in_order

pub returns-clause-finite : goal.returns-clause-finite
returns-clause-finite c = finitely_many
