use Rattle.rule_reader.proofs.RowLaws as lemma
use Rattle.rule_reader.proofs.SomeRows.{some_rows}
use Rattle.rule_reader.proofs.laws.rows_are_one.Goals as goal

pub returns : goal.returns
returns c = record { some = some_rows; one = lemma.rows_are_one }
