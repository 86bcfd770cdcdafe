use Rattle.std.proofs.Common.{◌≡◌, ◌∷◌, ◌<◌, [], length, get_or, slice_set, true, refl, sym, subst}
use Rattle.import_closure.specs.code.Reach.{Reach, Met}
use Rattle.import_closure.proofs.MetLemmas.{meet_new}
use Rattle.import_closure.proofs.reach.Reach.meet.Goals as goal

pub returns-in_ok-push : goal.returns-in_ok-push
returns-in_ok-push c =
    let clear = subst (λ b. b ≡ get_or c.self.inside.marks.items c.args.y.0 b) c.if-not-index.true c.index.ensures in
    let old : Reach = record { marks = c.self.inside.marks.items; left = c.self.inside.left.items } in
    let now : Reach = record { marks = slice_set c.self.inside.marks.items c.args.y.0 true; left = c.push.new.self.items } in
    subst (λ r. Met (c.args.y ∷ []) r now) c.self.view_is
    (meet_new c.args.y.0 old now (subst (λ r. c.args.y.0 < length r.marks) (sym c.self.view_is) c.requires) (sym clear) refl c.in_ok-push.ensures.items)
