use Rattle.std.proofs.Common.{sym, ◌∙◌, ap, subst, is_gt}
use Rattle.vg_base.specs.First.{IsFirst}
use Rattle.vg_base.proofs.Firsts.{first-later, first-earlier}
use Rattle.vg_base.proofs.first.sooner.Goals as goal

pub returns-then-is_gt-clause-joins : goal.returns-then-is_gt-clause-joins
returns-then-is_gt-clause-joins g c = λ fs gs h k.
    first-later g.F.Ord.cmp g.met.F.Ord.total fs gs c.in-Some-Some.f c.in-Some-Some.g (subst (IsFirst g.F.Ord.cmp fs) c.in-Some-Some.is-0 h) (subst (IsFirst g.F.Ord.cmp gs) c.in-Some-Some.is-1 k)
    (sym (c.is_gt.ensures ∙ ap is_gt c.cmp.ensures) ∙ c.if-is_gt.true)

pub returns-else-is_gt-clause-joins : goal.returns-else-is_gt-clause-joins
returns-else-is_gt-clause-joins g c = λ fs gs h k.
    first-earlier g.F.Ord.cmp g.met.F.Ord.total fs gs c.in-Some-Some.f c.in-Some-Some.g (subst (IsFirst g.F.Ord.cmp fs) c.in-Some-Some.is-0 h) (subst (IsFirst g.F.Ord.cmp gs) c.in-Some-Some.is-1 k)
    (sym (c.is_gt.ensures ∙ ap is_gt c.cmp.ensures) ∙ c.if-is_gt.false)
