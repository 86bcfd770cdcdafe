use Rattle.parse_choice.specs.code.Walks.{state_of}
use Rattle.parse_choice.proofs.Outcomes.{collected}
use Rattle.parse_choice.proofs.walk.walk_through.Goals as goal

pub returns-in_default : goal.returns-in_default
returns-in_default c =
    collected c.args.ground.now c.requires.ground (state_of c.loop.walk) c.in_ok-walked.walked c.in_ok-walked.ensures.others c.loop.invariant c.in_default.ensures.0 c.in_ok-walked.ensures.trail c.in_ok-walked.ensures.trees
