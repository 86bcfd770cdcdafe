use Rattle.rule_reader.proofs.RowLaws as lemma
use Rattle.rule_reader.proofs.laws.closures_are_one.Goals as goal

pub returns : goal.returns
returns c = lemma.closures_are_one
