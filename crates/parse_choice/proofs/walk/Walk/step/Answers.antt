use Rattle.std.proofs.Common.{sym, subst}
use Rattle.parse_choice.specs.code.Walks.{State, WalksOn, state_of, with_job}
use Rattle.parse_choice.specs.declared.plan.Job.{Job}
use Rattle.parse_choice.proofs.Outcomes.{on_ok, in_line}
use Rattle.parse_choice.proofs.WalkSteps.{turn_step, close_step}
use Rattle.parse_choice.proofs.walk.Walk.step.Goals as goal

pub turn-requires-clause-line : goal.turn-requires-clause-line
turn-requires-clause-line c = in_line c.args.ground.now c.requires.ground

pub returns-in-Turns : goal.returns-in-Turns
returns-in-Turns c = on_ok c.turn.result
    (λ s. turn_step c.args.ground.now c.requires.ground c.in-Turns.turns (state_of c.args.self.now)
    (subst (λ (x : Job). WalksOn c.args.ground.now (with_job x c.args.self.now)) c.in-Turns.is c.requires.walks) (state_of c.turn.new.self) s)
    c.turn.ensures

pub returns-in-Close : goal.returns-in-Close
returns-in-Close c = on_ok c.close.result
    (λ e. subst (λ (s : State). WalksOn c.args.ground.now s) (sym e)
    (close_step c.args.ground.now c.requires.ground c.in-Close.close (state_of c.args.self.now)
    (subst (λ (x : Job). WalksOn c.args.ground.now (with_job x c.args.self.now)) c.in-Close.is c.requires.walks)))
    c.close.ensures
