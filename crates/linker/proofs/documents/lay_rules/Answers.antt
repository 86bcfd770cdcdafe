use Rattle.std.proofs.Common.{sym, ◌∙◌}
use Rattle.std.proofs.lemmas.List.{nil_from_length}
use Rattle.linker.proofs.WholeRules.{one_rule_so_far, lays_all_rules}
use Rattle.linker.proofs.documents.lay_rules.Goals as goal

pub loop-rule-preserved : goal.loop-rule-preserved
loop-rule-preserved c = one_rule_so_far c.in-Some.rule c.loop-rule.invariant c.in-Some.ensures.items c.in_ok-lay_rule.ensures

pub returns : goal.returns
returns c =
    let none = rw c.in_default.is at c.pop.ensures.cases in
    lays_all_rules c.loop-rule.invariant (nil_from_length c.loop-rule.rules.items (sym c.loop-rule.rules.ok.0 ∙ none.0))
