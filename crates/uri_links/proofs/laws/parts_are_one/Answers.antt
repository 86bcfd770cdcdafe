use Rattle.uri_links.proofs.PartsLemmas.{recompose-parts, parts_are, only_parts}
use Rattle.uri_links.proofs.laws.parts_are_one.Goals as goal

pub returns-clause-recomposed : goal.returns-clause-recomposed
returns-clause-recomposed c = recompose-parts

pub returns-clause-are : goal.returns-clause-are
returns-clause-are c = parts_are

pub returns-clause-only : goal.returns-clause-only
returns-clause-only c = λ text p a. only_parts p text a
