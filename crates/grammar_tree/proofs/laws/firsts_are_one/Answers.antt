use Rattle.grammar_tree.proofs.Sorting.{firsts_unique, firsts_exist, first_of_one, none_without_tree}
use Rattle.grammar_tree.proofs.laws.firsts_are_one.Goals as goal

pub returns-clause-unique : goal.returns-clause-unique
returns-clause-unique c = firsts_unique

pub returns-clause-exists : goal.returns-clause-exists
returns-clause-exists c = firsts_exist

pub returns-clause-single : goal.returns-clause-single
returns-clause-single c = first_of_one

pub returns-clause-none : goal.returns-clause-none
returns-clause-none c = none_without_tree
