use Rattle.std.proofs.Common.{List, ◌-◌, ◌<◌, ◌≡◌, suc, ◌∷◌, length, drop, get_or, ap, ◌∙◌, arith, drop-cons}
use Rattle.vg_base.specs.declared.numbers.NodeIx.{NodeIx}
use Rattle.parse_choice.specs.declared.plan.Job.{Job}
use Rattle.parse_choice.specs.code.Walks.{State, state_of}
use Rattle.parse_choice.proofs.Lining.{one_lined}
use Rattle.parse_choice.proofs.walk.Walk.sequence.Goals as goal

pub loop-left-preserved : goal.loop-left-preserved
loop-left-preserved c =
    let lt : c.loop-left.left - 1 < length c.args.parts.now = omega (arith, c.loop-left.invariant.within) in
    let any : NodeIx = record { 0 = 0 } in
    let next : suc (c.loop-left.left - 1) ≡ c.loop-left.left = omega arith in
    record {
      within = omega (arith, c.loop-left.invariant.within);
      lining = one_lined c.args.chart.now (drop c.loop-left.left c.args.parts.now) (drop (c.loop-left.left - 1) c.args.parts.now) (get_or c.args.parts.now (c.loop-left.left - 1) any)
          c.args.ends c.loop-left.ends c.before-ends.result (state_of c.open.new.self) (state_of c.loop-left.self) _ c.loop-left.invariant.lining
          (drop-cons c.args.parts.now (c.loop-left.left - 1) any lt ∙ ap (λ n. get_or c.args.parts.now (c.loop-left.left - 1) any ∷ drop n c.args.parts.now) next)
          (ap (λ (xs : List Job). let s : State = record { plan = xs; here = record { place = c.loop-left.self.place; trees = c.loop-left.self.trees.items }; trail = c.loop-left.self.trail } in s) c.in_ok-push.ensures)
          c.before-ends.ensures;
    }
