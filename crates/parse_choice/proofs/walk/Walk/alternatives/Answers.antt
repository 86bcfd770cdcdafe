use Rattle.std.proofs.Common.{◌∷◌, ap, ◌∙◌, subst}
use Rattle.std.proofs.lemmas.Option.{slice_get_within, get_or_from_slice_get}
use Rattle.vg_base.specs.declared.numbers.NodeIx.{NodeIx}
use Rattle.parse_choice.specs.declared.plan.Job.TheVariants as job
use Rattle.parse_choice.specs.code.Walks.{State}
use Rattle.parse_choice.specs.code.Steps.{IsNext}
use Rattle.parse_choice.proofs.walk.Walk.alternatives.Goals as goal

pub bounds-parts-taken : goal.bounds-parts-taken
bounds-parts-taken c = slice_get_within c.args.parts.now c.in-Some.taken c.in-Some.ensures.possible.0 c.in-Some.ensures.possible.1

pub returns : goal.returns
returns c =
    let p = c.in-Some.ensures.possible in
    let is = get_or_from_slice_get c.args.parts.now c.in-Some.taken p.0 (record { 0 = 0 }) p.1 in
    let o = c.in_ok-open.ensures in
    record {
      taken = c.in-Some.taken;
      part = p.0;
      there = p.1;
      greater = c.next_alternative-greater.result;
      least = subst (λ b. IsNext c.args.ground.now.chart.now c.args.parts.now c.args.ends c.args.self.now.place b c.in-Some.taken) c.bound-bound.ensures c.in-Some.ensures;
      next = c.next_alternative-greater.ensures;
      state = λ i. record {
        plan = (c.in_ok-push.ensures ∙ ap (λ (n : NodeIx). job.Node n c.args.ends ∷ c.open.new.self.plan) is ∙ ap (λ (s : State). job.Node p.0 c.args.ends ∷ s.plan) o) i;
        here = ap (λ (s : State). s.here) o i;
        trail = (ap (λ (s : State). s.trail) o ∙ c.in_ok-take.ensures) i;
      };
    }
