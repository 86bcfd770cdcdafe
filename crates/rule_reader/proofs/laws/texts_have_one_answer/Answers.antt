use Rattle.rule_reader.proofs.OneReading.{not_both, one_first_fault}
use Rattle.rule_reader.proofs.OneMeaning.{one_doc}
use Rattle.rule_reader.proofs.SomeReading.{some_reading}
use Rattle.rule_reader.proofs.laws.texts_have_one_answer.Goals as goal

pub returns : goal.returns
returns c = record { document = one_doc; either = not_both; fault = one_first_fault; some = some_reading }
