use Rattle.std.proofs.Common.{List, ◌∷◌, refl, sym, ap, ◌∙◌, true≢false}
use Rattle.parse_choice.specs.declared.accepted.Turns.{Turns}
use Rattle.parse_choice.specs.declared.plan.Job.{Job}
use Rattle.parse_choice.specs.declared.plan.Job.TheVariants as job
use Rattle.parse_choice.specs.code.Walks.{State, state_of}
use Rattle.parse_choice.proofs.Deciding.{goes_on, goes_no_further}
use Rattle.parse_choice.proofs.walk.Walk.turn.Goals as goal

pub returns-then-not-another : goal.returns-then-not-another
returns-then-not-another c = record {
  ends = c.onward-ends.result;
  onward = c.onward-ends.ensures;
  goes = goes_no_further c.args.ground.now c.args.turns c.onward-ends.result (state_of c.args.self.now) _ c.another.new.trail c.has_some-possible.result c.has_some-possible.ensures
      c.in_ok-another.another c.in_ok-another.ensures (λ t. true≢false (sym t ∙ c.if-not-another.true)) refl;
}

pub returns : goal.returns
returns c = record {
  ends = c.onward-ends.result;
  onward = c.onward-ends.ensures;
  goes = goes_on c.args.ground.now c.args.turns c.onward-ends.result (state_of c.args.self.now) _ c.another.new.trail c.has_some-possible.result c.has_some-possible.ensures
      c.in_ok-another.another c.in_ok-another.ensures c.if-not-another.false
      (ap (λ (xs : List Job). let s : State = record { plan = xs; here = record { place = c.args.self.now.place; trees = c.args.self.now.trees.items }; trail = c.another.new.trail } in s)
      (c.in_ok-push-2.ensures ∙ ap (λ (xs : List Job). job.Node c.args.turns.repeat.inner c.onward-ends.result ∷ xs) (c.in_ok-push.ensures ∙ ap (λ (t : Turns). job.Turns t ∷ c.args.self.now.plan) c.in_ok-next.ensures)));
}
