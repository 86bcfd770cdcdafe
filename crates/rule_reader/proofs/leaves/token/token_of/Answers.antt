use Rattle.rule_reader.proofs.ReadLeaves.{words_read, keys_read, no_keys_read}
use Rattle.rule_reader.proofs.leaves.token.token_of.Goals as goal

pub returns-in_ok-words_of-in-Voice : goal.returns-in_ok-words_of-in-Voice
returns-in_ok-words_of-in-Voice c = words_read c.args.context c.args.span c.in-Voice.is c.in_ok-words_of-in-Voice.ensures

pub returns-in-Ok : goal.returns-in-Ok
returns-in-Ok c = keys_read c.args.context c.args.span c.in-Dtmf.is c.in-Ok.ensures

pub returns-in-Err-Fault : goal.returns-in-Err-Fault
returns-in-Err-Fault c = no_keys_read c.args.context c.args.span c.in-Dtmf.is (rw c.in-Err-Fault.field-0-is at c.in-Err-Fault.ensures) c.tell.ensures
