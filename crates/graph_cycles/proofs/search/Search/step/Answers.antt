-- Where the last group has no edge left it is shut; else its last edge is taken off, and followed.
use Rattle.std.proofs.Common.{arith, get_or, refl}
use Rattle.std.proofs.lemmas.Option.{slice_get-get_or, slice_get_within}
use Rattle.graph_cycles.specs.declared.search.Place.TheVariants.{Open}
use Rattle.graph_cycles.proofs.TakingOff.{TakesOff, taken_follows}
use Rattle.graph_cycles.proofs.Shutting.{Shuts, shut_search, shut_keeps, shut_less}
use Rattle.graph_cycles.proofs.search.Search.step.Goals as goal
use Rattle.graph_cycles.proofs.search.Search.step.Goals.{After-shut, In-Some}

shuts : (c : After-shut) → Shuts c.args.graph.now c.args.group c.args.self.now c.shut.new.self
shuts c = record {
  component = record {
    search = c.requires.search;
    is_last = c.requires.last;
    none_left = omega (arith, c.if-len-group.true, c.len.ensures);
  };
  shut = c.shut.ensures;
}

taken : (c : In-Some) → TakesOff c.args.graph.now c.in-Some.edge c.args.self.now (record c.args.self.now { left = c.pop.new.self })
taken c = record {
  search = c.requires.search;
  last = c.args.group;
  is_last = c.requires.last;
  more = omega (arith, c.if-len-group.false, c.len.ensures);
  taken = record { places = refl; path = refl; groups = refl; left = c.in-Some.ensures.items; marks = refl };
}

pub shut-requires-clause-inside : goal.shut-requires-clause-inside
shut-requires-clause-inside c = λ k d lt.
    slice_get_within c.args.self.now.places.items (get_or c.args.self.now.path.items k d) (Open k)
    ((c.requires.search.sound.path.placed k (get_or c.args.self.now.path.items k d)).0 (slice_get-get_or c.args.self.now.path.items k d lt))

pub returns-then-len-group : goal.returns-then-len-group
returns-then-len-group c = record {
  search = shut_search c.args.graph.now c.args.group c.args.self.now c.shut.new.self (shuts c);
  met = shut_keeps c.args.graph.now c.args.group c.args.self.now c.shut.new.self (shuts c);
  less = shut_less c.args.graph.now c.args.group c.args.self.now c.shut.new.self (shuts c);
}

pub follow-requires : goal.follow-requires
follow-requires c = taken_follows c.args.graph.now c.in-Some.edge c.args.self.now (record c.args.self.now { left = c.pop.new.self }) (taken (goal.at.follow-requires c).In-Some)
