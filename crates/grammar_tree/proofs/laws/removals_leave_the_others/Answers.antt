use Rattle.grammar_tree.proofs.KeyedLaws.{removed_is_gone, others_are_found}
use Rattle.grammar_tree.proofs.laws.removals_leave_the_others.Goals as goal

pub returns-clause-gone : goal.returns-clause-gone
returns-clause-gone c = removed_is_gone

pub returns-clause-others : goal.returns-clause-others
returns-clause-others c = others_are_found
