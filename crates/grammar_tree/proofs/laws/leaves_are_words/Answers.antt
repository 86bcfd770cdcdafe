use Rattle.grammar_tree.proofs.LeafWords.{leaves_words}
use Rattle.grammar_tree.proofs.laws.leaves_are_words.Goals as goal

pub returns : goal.returns
returns c = leaves_words
