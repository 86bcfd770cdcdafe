-- Pairs of a row rise.
use Rattle.version_shelf.specs.Known.{facts, values}
use Rattle.version_shelf.proofs.Knowing.{rising}
use Rattle.version_shelf.proofs.laws.known_rises.Goals as goal

pub returns-clause-publisher : goal.returns-clause-publisher
returns-clause-publisher g c = λ p. rising p.number (values (facts p.notes.items))

pub returns-clause-reader : goal.returns-clause-reader
returns-clause-reader g c = λ r. rising r.number (values (facts r.notes.items))
