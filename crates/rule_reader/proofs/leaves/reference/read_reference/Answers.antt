use Rattle.rule_reader.proofs.ReadLeaves.{reference_read, goal_read, no_goal_read}
use Rattle.rule_reader.proofs.leaves.reference.read_reference.Goals as goal

pub returns-in-Some : goal.returns-in-Some
returns-in-Some c = reference_read c.args.span c.in_ok-inside.ensures (goal_read c.args.span c.in-Some.goal (rw c.in-Some.is at c.in_ok-goal.ensures))

pub returns : goal.returns
returns c = reference_read c.args.span c.in_ok-inside.ensures (no_goal_read c.args.span (rw c.in-None.is at c.in_ok-goal.ensures) c.tell.ensures)
