-- Each arm's step keeps the search.
use Rattle.std.proofs.Common.{◌≡◌, ◌∙◌, ℕ, sym, ap, Some, length, get_or}
use Rattle.std.specs.Prelude.{slice_get}
use Rattle.std.proofs.lemmas.Option.{slice_get_read}
use Rattle.graph_cycles.specs.declared.search.Search.{Search}
use Rattle.graph_cycles.specs.declared.search.Place.{Place}
use Rattle.graph_cycles.specs.declared.search.Place.TheVariants.{Unmet, Open, Closed}
use Rattle.graph_cycles.specs.Graphs.{Rows}
use Rattle.graph_cycles.specs.code.Searches.{IsFollowing}
use Rattle.graph_cycles.proofs.Entering.{Enters, entered_search, entered_keeps, entered_met, entered_less}
use Rattle.graph_cycles.proofs.Joining.{Joins, joined_search, joined_keeps, joined_met, joined_less, closed_search}
use Rattle.graph_cycles.proofs.search.Search.follow.Goals as goal
use Rattle.graph_cycles.proofs.search.Search.follow.Goals.{In_ok-enter-in-Unmet, After-join}

place_at : (rows : Rows) (s : Search) (x : ℕ) (p q : Place) → IsFollowing rows s x → p ≡ get_or s.places.items x p → p ≡ q → slice_get s.places.items x ≡ Some q
place_at rows s x p q f read same = slice_get_read s.places.items (length rows) x p (sym f.sound.sized) f.inside read ∙ ap Some same

enters : (c : In_ok-enter-in-Unmet) → Enters c.args.graph.now c.args.to c.args.self.now c.enter.new.self
enters c = record {
  following = c.requires;
  is_new = place_at c.args.graph.now c.args.self.now c.args.to c.index.result.now Unmet c.requires c.index.ensures c.in-Unmet.is;
  entered = c.in_ok-enter-in-Unmet.ensures;
}

joins : (c : After-join) → Joins c.args.graph.now c.args.to c.in-Open.place c.args.self.now c.join.new.self
joins c = record {
  following = c.requires;
  is_open = place_at c.args.graph.now c.args.self.now c.args.to c.index.result.now (Open c.in-Open.place) c.requires c.index.ensures c.in-Open.is;
  joined = c.join.ensures;
}

pub returns-in_ok-enter-in-Unmet : goal.returns-in_ok-enter-in-Unmet
returns-in_ok-enter-in-Unmet c = record {
  search = entered_search c.args.graph.now c.args.to c.args.self.now c.enter.new.self (enters c);
  met = entered_keeps c.args.graph.now c.args.to c.args.self.now c.enter.new.self (enters c);
  to = entered_met c.args.graph.now c.args.to c.args.self.now c.enter.new.self (enters c);
  less = entered_less c.args.graph.now c.args.to c.args.self.now c.enter.new.self (enters c);
}

pub returns-in-Open : goal.returns-in-Open
returns-in-Open c = record {
  search = joined_search c.args.graph.now c.args.to c.in-Open.place c.args.self.now c.join.new.self (joins c);
  met = joined_keeps c.args.graph.now c.args.to c.in-Open.place c.args.self.now c.join.new.self (joins c);
  to = joined_met c.args.graph.now c.args.to c.in-Open.place c.args.self.now c.join.new.self (joins c);
  less = joined_less c.args.graph.now c.args.to c.in-Open.place c.args.self.now c.join.new.self (joins c);
}

pub returns-in-Closed-clause-search : goal.returns-in-Closed-clause-search
returns-in-Closed-clause-search c =
    closed_search c.args.graph.now c.args.to c.args.self.now c.requires (place_at c.args.graph.now c.args.self.now c.args.to c.index.result.now Closed c.requires c.index.ensures c.in-Closed.is)

pub returns-in-Closed-clause-to : goal.returns-in-Closed-clause-to
returns-in-Closed-clause-to c =
    λ u. let e = place_at c.args.graph.now c.args.self.now c.args.to c.index.result.now Closed c.requires c.index.ensures c.in-Closed.is in
    let f : Some Unmet ≡ Some Closed = sym u ∙ e in cc
