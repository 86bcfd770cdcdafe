-- What was reached isn't lost, and a reader's numbers have one value each.
use Rattle.std.proofs.Common.{arith}
use Rattle.version_shelf.specs.Known.{facts, values}
use Rattle.version_shelf.proofs.Knowing.{once, rising}
use Rattle.version_shelf.proofs.laws.answers_agree.Goals as goal

pub returns-clause-later : goal.returns-clause-later
returns-clause-later g c = λ a b d e m n x y first between second. let at = first.last in let on = second.later in omega arith

pub returns-clause-value : goal.returns-clause-value
returns-clause-value g c = λ a b d e n x y first between second.
    once _ n x y (rising e.number (values (facts e.notes.items))) (second.keeps n x (between n x first.pair)) second.pair
