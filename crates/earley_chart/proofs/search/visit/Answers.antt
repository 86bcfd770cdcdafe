use Rattle.std.proofs.Common.{List, ℕ, ◌≡◌, get_or, sym, subst}
use Rattle.earley_chart.specs.declared.board.Spot.{Spot}
use Rattle.earley_chart.specs.code.Boards.{IsSpot}
use Rattle.earley_chart.proofs.Visited.{visited}
use Rattle.earley_chart.proofs.Visits.{spot_there}
use Rattle.earley_chart.proofs.search.visit.Goals as goal

pub returns : goal.returns
returns c =
    let any : Spot = record { node = 0; step = 0; start = 0 } in
    visited c.args.task.now c.args.board.now c.follow.new.board c.end.new.self c.args.at _ c.in_ok-ends.ends
    (subst (λ (l : List Spot). IsSpot c.args.board.now c.args.at (get_or l c.args.at any)) (sym c.as_slice.ensures.keys) (spot_there c.args.board.now c.args.at any c.requires.within))
    c.requires.good.whole c.in_ok-ends.ensures.went c.in_ok-ends.ensures.answer c.in_ok-end.ensures.whole c.in_ok-end.ensures.ended
