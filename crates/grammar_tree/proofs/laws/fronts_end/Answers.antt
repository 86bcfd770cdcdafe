use Rattle.grammar_tree.proofs.Fronts.{all_parts_derive, enough_turns_derive}
use Rattle.grammar_tree.proofs.laws.fronts_end.Goals as goal

pub returns-clause-parts : goal.returns-clause-parts
returns-clause-parts c = all_parts_derive

pub returns-clause-turns : goal.returns-clause-turns
returns-clause-turns c = enough_turns_derive
