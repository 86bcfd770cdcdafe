use Rattle.std.proofs.Common.{◌∙◌, sym, subst}
use Rattle.rule_reader.specs.Sets.{IsClosure}
use Rattle.linker.specs.Readings.{staged}
use Rattle.worked_rows.proofs.ReadingLemmas.{staged_within}
use Rattle.worked_rows.proofs.tests.linking.readings.readings.Goals as goal

pub returns : goal.returns
returns c =
    let set = c.args.set.now in
    let entries = c.args.entries.now in
    c.in_ok-docs.ensures (staged set entries) (staged_within set entries)
    (subst (λ those. IsClosure set those c.deref-2.result.now) (c.deref.ensures.value ∙ c.in_ok-places.ensures)
    (subst (λ needed. IsClosure set c.deref.result.now needed) (sym c.deref-2.ensures.value) c.in_ok-needed.ensures))
