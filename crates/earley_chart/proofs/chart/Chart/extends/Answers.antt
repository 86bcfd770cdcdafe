use Rattle.std.proofs.Common.{Bool, ℕ, ◌+◌, ◌≡◌, ◌<◌, Some, length, refl, sym, ap, ◌∙◌, subst, arith}
use Rattle.std.specs.Prelude.{◌↔◌, IsTrue, slice_get}
use Rattle.std.proofs.lemmas.Option.{slice_get_within}
use Rattle.earley_chart.specs.Places.{Has}
use Rattle.earley_chart.specs.Chart.{Table, TellsLonger}
use Rattle.earley_chart.specs.code.Boards.{spot_at}
use Rattle.earley_chart.proofs.Lists.{get_from}
use Rattle.earley_chart.proofs.Charts.{longer_tells}
use Rattle.earley_chart.proofs.chart.Chart.extends.Goals as goal

pub returns : goal.returns
returns c =
    let ran = c.in_ok-board.ensures in
    let lt : 0 < length c.in_ok-board.board.ends.items = omega (arith, slice_get_within c.in_ok-board.board.spots.keys 0 (spot_at ran.first.0.body 0 0) ran.first.2, ran.good.whole.ends) in
    let here : slice_get c.in_ok-board.board.ends.items 0 ≡ Some c.index.result.now = get_from c.in_ok-board.board.ends.items 0 c.index.result.now lt c.index.ensures in
    let says : IsTrue c.has.result ↔ Has c.index.result.now (length c.as_slice.result.now + 1) = subst (λ k. IsTrue c.has.result ↔ Has c.index.result.now k) c.last.ensures c.has.ensures in
    subst (λ (t : Table). TellsLonger c.args.linked.now t c.has.result) c.self.view_is
    (subst (λ ws. TellsLonger c.args.linked.now (record { rule = c.self.inside.rule; words = ws; spots = c.self.inside.spots.keys; ends = c.self.inside.ends.items }) c.has.result)
    c.as_slice.ensures (longer_tells _ c.in_ok-board.board ran refl c.has.result c.index.result.now here says))
