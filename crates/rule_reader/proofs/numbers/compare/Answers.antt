use Rattle.std.proofs.Common.{◌≡◌, ℕ, List, sym, ap, ◌∙◌}
use Rattle.std.specs.Prelude.{min}
use Rattle.std.specs.Ordering.{nat_cmp}
use Rattle.rule_reader.specs.Numbers.{number_of}
use Rattle.rule_reader.specs.code.Numbers.{compared}
use Rattle.rule_reader.proofs.NumberLemmas.{compared_whole}
use Rattle.rule_reader.proofs.numbers.compare.Goals as goal

pub returns : goal.returns
returns c =
    let before = c.cmp-before.ensures ∙ (λ i. nat_cmp (c.number_of.ensures i) (c.number_of-2.ensures i)) in
    c.compared.ensures
    ∙ (ap (λ o. compared o c.parted.result.1.now c.parted-2.result.1.now) before
    ∙ ((λ i. compared (nat_cmp (min (number_of (c.parted.ensures.front i)) 65536) (min (number_of (c.parted-2.ensures.front i)) 65536)) (c.parted.ensures.back i) (c.parted-2.ensures.back i))
    ∙ compared_whole c.args.one.now c.args.other.now c.requires.one c.requires.other))
