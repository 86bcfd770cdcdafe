use Rattle.rule_reader.proofs.ReferenceLemmas.{is_reference_of, goal_decided, no_goal}
use Rattle.rule_reader.proofs.leaves.reference.goal_of.Goals as goal

pub target_of-requires : goal.target_of-requires
target_of-requires c = is_reference_of c.args.inside.now c.in-Ok.uri c.in-Ok.ensures

pub returns-in_ok-target-in-Ok : goal.returns-in_ok-target-in-Ok
returns-in_ok-target-in-Ok c = goal_decided c.args.inside.now c.in-Ok.uri c.in_ok-target-in-Ok.target c.in-Ok.ensures c.in_ok-target-in-Ok.ensures

pub returns-in-Err-Fault : goal.returns-in-Err-Fault
returns-in-Err-Fault c = no_goal c.args.inside.now _ (rw c.in-Err-Fault.field-0-is at c.in-Err-Fault.ensures)
