use Rattle.script_reader.proofs.OneAnswer.{answers_read, one_answer, one_script_of, one_place, not_both}
use Rattle.script_reader.proofs.laws.each_text_has_one_answer.Goals as goal

pub returns-clause-answer : goal.returns-clause-answer
returns-clause-answer c = answers_read

pub returns-clause-one : goal.returns-clause-one
returns-clause-one c = one_answer

pub returns-clause-script : goal.returns-clause-script
returns-clause-script c = one_script_of

pub returns-clause-place : goal.returns-clause-place
returns-clause-place c = one_place

pub returns-clause-either : goal.returns-clause-either
returns-clause-either c = not_both
