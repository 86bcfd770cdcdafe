use Rattle.script_reader.proofs.CompleteStatements.{complete}
use Rattle.script_reader.proofs.SoundStatements.{sound}
use Rattle.script_reader.proofs.Viable.{viable}
use Rattle.script_reader.proofs.laws.machine_reads_the_grammar.Goals as goal

pub returns-clause-complete : goal.returns-clause-complete
returns-clause-complete c = complete

pub returns-clause-sound : goal.returns-clause-sound
returns-clause-sound c = λ found script h. sound found h.0 script h.1 h.2

pub returns-clause-viable : goal.returns-clause-viable
returns-clause-viable c = viable
