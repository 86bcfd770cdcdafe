use Rattle.grammar_tree.proofs.Numbering.{reading_order_is_linked}
use Rattle.grammar_tree.proofs.laws.reading_order_links.Goals as goal

pub returns : goal.returns
returns c = reading_order_is_linked
