use Rattle.grammar_tree.proofs.Fronts.{no_step_no_word, one_more_part, one_more_turn, followers_go_on}
use Rattle.grammar_tree.proofs.laws.fronts_grow.Goals as goal

pub returns-clause-none : goal.returns-clause-none
returns-clause-none c = no_step_no_word

pub returns-clause-part : goal.returns-clause-part
returns-clause-part c = one_more_part

pub returns-clause-turn : goal.returns-clause-turn
returns-clause-turn c = one_more_turn

pub returns-clause-follows : goal.returns-clause-follows
returns-clause-follows c = followers_go_on
