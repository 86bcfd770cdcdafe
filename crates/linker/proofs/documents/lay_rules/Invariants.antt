use Rattle.std.proofs.Common.{length, reverse}
use Rattle.linker.proofs.WholeRules.{RulesSoFar}
use Rattle.linker.proofs.documents.lay_rules.Given as goal

abbrev pub invariant-loop-rule : goal.invariant-loop-rule
invariant-loop-rule l = RulesSoFar l.scope l.number (reverse l.fn.rules.items) l.rules.items l.fn.whole l.whole

abbrev pub decreases-loop-rule : goal.decreases-loop-rule
decreases-loop-rule l = length l.rules.items
