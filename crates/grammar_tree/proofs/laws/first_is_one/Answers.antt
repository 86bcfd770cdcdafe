use Rattle.grammar_tree.proofs.Orderly.{first_unique}
use Rattle.grammar_tree.proofs.Sorting.{first_exists}
use Rattle.grammar_tree.proofs.laws.first_is_one.Goals as goal

pub returns-clause-unique : goal.returns-clause-unique
returns-clause-unique c = first_unique

pub returns-clause-exists : goal.returns-clause-exists
returns-clause-exists c = first_exists
