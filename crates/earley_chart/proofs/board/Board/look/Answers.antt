use Rattle.std.proofs.Common.{ℕ, ◌≡◌, ◌<◌, ◌++◌, length, refl, sym, subst, ◌∙◌, Some, arith}
use Rattle.std.specs.Prelude.{slice_get}
use Rattle.std.proofs.lemmas.Option.{slice_get_within}
use Rattle.earley_chart.specs.declared.places.Places.{Places}
use Rattle.earley_chart.specs.Places.{Has}
use Rattle.earley_chart.specs.code.Boards.{EndsAt}
use Rattle.earley_chart.proofs.Calls.{inserted}
use Rattle.earley_chart.proofs.Lists.{get_from}
use Rattle.earley_chart.proofs.Looks.{Watched, watched_waits, watched_whole, watched_grows, grows_then}
use Rattle.earley_chart.proofs.board.Board.look.Goals as goal

watched : (c : goal.After-result-1) → Watched c.meet.new.self (Rattle.std.specs.Vec.with_item c.meet.new.self.waiting c.in_ok-at.at c.insert.new.self) c.args.above c.in_ok-at.at
watched c =
    let at : c.in_ok-at.at < length c.meet.new.self.spots.keys = slice_get_within c.meet.new.self.spots.keys c.in_ok-at.at c.args.spot c.in_ok-at.ensures.met in
    let fits : c.in_ok-at.at < length c.meet.new.self.waiting.items = subst (λ n. c.in_ok-at.at < n) (sym c.in_ok-at.ensures.whole.waiting) at in
    record {
      was = c.index_mut.result.now;
      here = get_from c.meet.new.self.waiting.items c.in_ok-at.at c.index_mut.result.now fits c.index_mut.ensures.value;
      more = c.insert.new.self;
      inserted = inserted c.index_mut.result.now.keys c.insert.new.self.keys c.args.above c.in_ok-insert.ensures.keys;
      set = refl;
    }

pub returns-clause-whole : goal.returns-clause-whole
returns-clause-whole c =
    watched_whole _ _ _ _ (watched c) c.in_ok-at.ensures.whole (omega (arith, c.requires.above, c.in_ok-at.ensures.grows.more))

pub returns-clause-grows : goal.returns-clause-grows
returns-clause-grows c = grows_then _ _ _ c.in_ok-at.ensures.grows (watched_grows _ _ _ _ (watched c))

pub returns-clause-sees : goal.returns-clause-sees
returns-clause-sees c =
    let at : c.in_ok-at.at < length c.meet.new.self.spots.keys = slice_get_within c.meet.new.self.spots.keys c.in_ok-at.at c.args.spot c.in_ok-at.ensures.met in
    let fits : c.in_ok-at.at < length c.meet.new.self.ends.items = subst (λ n. c.in_ok-at.at < n) (sym c.in_ok-at.ensures.whole.ends) at in
    let here : slice_get c.meet.new.self.ends.items c.in_ok-at.at ≡ Some c.index.result.now = get_from c.meet.new.self.ends.items c.in_ok-at.at c.index.result.now fits c.index.ensures in (
      c.in_ok-at.at,
      c.in_ok-at.ensures.met,
      watched_waits _ _ _ _ (watched c),
      λ j h. (let both : Some h.0 ≡ Some c.index.result.now = sym h.1 ∙ here in let one : h.0 ≡ c.index.result.now = cc in subst (λ (e : Places). Has e j) one h.2),
      λ j h. (c.index.result.now, here, h),
    )
