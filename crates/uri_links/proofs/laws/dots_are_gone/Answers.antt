use Rattle.std.proofs.Common.{[]}
use Rattle.uri_links.proofs.DotsLemmas.{removed-ended}
use Rattle.uri_links.proofs.PlainLemmas.{remove-twice}
use Rattle.uri_links.proofs.laws.dots_are_gone.Goals as goal

pub returns-clause-ended : goal.returns-clause-ended
returns-clause-ended c = λ path. removed-ended path []

pub returns-clause-once : goal.returns-clause-once
returns-clause-once c = remove-twice
