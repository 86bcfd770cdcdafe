-- What was found at a place is known there from then on, and the view has the count that the load showed.
use Rattle.std.proofs.Common.{◌≡◌, ◌<◌, ◌≤◌, ◌∙◌, ap, arith, refl, length, Some, None, get_or}
use Rattle.std.proofs.lemmas.List.{get_or-set_same}
use Rattle.version_shelf.specs.Known.{facts}
use Rattle.version_shelf.proofs.Noted.{bound_set, facts_length}
use Rattle.version_shelf.proofs.Knowing.{found_keeps, found_here}
use Rattle.version_shelf.proofs.Values.{keeps_values, pair_of_value}
use Rattle.version_shelf.proofs.reader.Reader.latest.Goals as goal

pub returns-clause-of : goal.returns-clause-of
returns-clause-of g c =
    let of = c.requires in
    let view = c.load-count.ensures.view in
    let least = c.load-count.ensures.least.0 in
    let top = c.newest-last.ensures.places in
    let now : c.load-count.new.seat.me.0.count ≡ c.load-count.result = ap (λ me. me.0.count) view in
    let at : c.newest-last.result.0 ≤ c.load-count.new.seat.me.0.count = omega arith in
    let len = facts_length c.args.self.now.notes.items c.args.shelf.now.cells.items of.names in record {
      table = c.load-count.ensures.table ∙ of.table;
      words = of.words;
      reads = ap (λ me. me.0.publishes) view ∙ of.reads;
      no_slot = ap (λ me. me.1) view ∙ of.no_slot;
      names = c.newest-last.ensures.names ∙ of.names;
      number = of.number;
      room = omega (arith, c.len.ensures, c.args.shelf.now.cells.ok.0);
      few = of.few;
      met = at;
      seen = (c.newest-last.result.1.now, ap (λ l. get_or l c.newest-last.result.0 None) c.newest-last.ensures.known ∙ get_or-set_same (facts c.args.self.now.notes.items) c.newest-last.result.0 (Some c.newest-last.result.1.now) None (omega (arith, c.len.ensures, c.args.shelf.now.cells.ok.0)));
      bound = bound_set (facts c.args.self.now.notes.items) (facts c.newest-last.new.notes.items) c.newest-last.result.0 c.args.self.now.seat.me.0.count c.load-count.new.seat.me.0.count c.newest-last.result.1.now c.newest-last.ensures.known at (omega arith) of.bound;
    }

pub returns-clause-answered : goal.returns-clause-answered
returns-clause-answered g c =
    let of = c.requires in
    let view = c.load-count.ensures.view in
    let least = c.load-count.ensures.least.0 in
    let top = c.newest-last.ensures.places in
    let now : c.load-count.new.seat.me.0.count ≡ c.load-count.result = ap (λ me. me.0.count) view in
    let old = facts c.args.self.now.notes.items in
    let new = facts c.newest-last.new.notes.items in
    let len = facts_length c.args.self.now.notes.items c.args.shelf.now.cells.items of.names in
    let room : c.newest-last.result.0 < length old = omega (arith, c.len.ensures, c.args.shelf.now.cells.ok.0) in record {
      keeps = keeps_values c.args.self.now.number old new (found_keeps old new c.newest-last.result.0 c.newest-last.result.1.now c.newest-last.ensures.known room c.newest-last.ensures.agrees);
      pair = pair_of_value c.args.self.now.number new c.newest-last.result.0 c.newest-last.result.1.now (found_here old new c.newest-last.result.0 c.newest-last.result.1.now c.newest-last.ensures.known room);
      last = refl;
      later = omega arith;
      bound = omega arith;
      counted = omega arith;
    }
