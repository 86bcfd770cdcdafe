use Rattle.grammar_tree.proofs.Orderly.{equal_choices, none_goes_on, choices_tell}
use Rattle.grammar_tree.proofs.laws.choices_tell_trees.Goals as goal

pub returns-clause-equal : goal.returns-clause-equal
returns-clause-equal c = equal_choices

pub returns-clause-prefix : goal.returns-clause-prefix
returns-clause-prefix c = none_goes_on

pub returns-clause-fronts : goal.returns-clause-fronts
returns-clause-fronts c = choices_tell
