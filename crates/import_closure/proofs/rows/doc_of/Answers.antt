use Rattle.import_closure.proofs.rows.doc_of.Goals as goal

pub returns-in-Err-Fault : goal.returns-in-Err-Fault
returns-in-Err-Fault c = λ doc reads. c.texts_have_one_answer.ensures.either c.args.text.now doc c.in-Err-Fault.field-0-0 reads (rw c.in-Err-Fault.field-0-is at c.in-Err-Fault.ensures)
