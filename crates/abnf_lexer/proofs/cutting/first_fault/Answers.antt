use Rattle.abnf_lexer.proofs.Answering.{settled_first, stopped_first}
use Rattle.abnf_lexer.proofs.cutting.first_fault.Goals as goal

pub returns-in-Some : goal.returns-in-Some
returns-in-Some c = λ text header t cut. settled_first text c.args.end.now c.args.tally.now c.in-Some.fault header t cut c.in-Some.is

pub returns-in-None : goal.returns-in-None
returns-in-None c = λ text header t cut. stopped_first text c.args.end.now c.args.tally.now c.stop.result header t cut c.in-None.is c.stop.ensures
