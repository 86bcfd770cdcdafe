use Rattle.grammar_tree.proofs.EmptyParts.{empty_by_kind}
use Rattle.grammar_tree.proofs.laws.empty_by_kind.Goals as goal

pub returns : goal.returns
returns c = empty_by_kind
