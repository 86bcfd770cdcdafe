use Rattle.std.proofs.Common.{List, [], ◌∷◌, sym, ap, ◌∙◌, subst}
use Rattle.parse_choice.specs.declared.plan.Job.{Job}
use Rattle.parse_choice.specs.declared.plan.Job.TheVariants as job
use Rattle.parse_choice.specs.code.Walks.{State, Walks}
use Rattle.parse_choice.proofs.WalkSteps.{started}
use Rattle.parse_choice.proofs.walk.Walk.start.Goals as goal

pub returns : goal.returns
returns c =
    let first = job.Node c.args.ground.now.body c.one.result in
    let plan = c.in_ok-push.ensures ∙ ap (λ (xs : List Job). first ∷ xs) c.new-plan.ensures in
    let trees = c.new.ensures.items in
    let begin : State = record { plan = first ∷ []; here = record { place = 0; trees = [] }; trail = c.new-2.result } in
    subst (λ (s : State). Walks c.args.ground.now.linked.now c.args.ground.now.chart.now c.args.ground.now.body c.args.ground.now.guide.now s)
    (λ i. record { plan = sym plan i; here = record { place = 0; trees = sym trees i }; trail = c.new-2.result })
    (started c.args.ground.now c.requires.ground c.one.result c.new-2.result c.one.ensures c.new-2.ensures.log c.new-2.ensures.fork c.requires.guide)
