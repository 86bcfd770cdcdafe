use Rattle.std.proofs.Common.{◌≤◌, ◌^◌, length, subst}
use Rattle.grammar_tree.proofs.Counts.{few_rules}
use Rattle.grammar_tree.proofs.linked.Linked.rule_count.Goals as goal

pub returns-clause-few : goal.returns-clause-few
returns-clause-few c = subst (λ l. length l.rules ≤ 2 ^ 32) c.self.view_is (few_rules _ c.self.invariant)
