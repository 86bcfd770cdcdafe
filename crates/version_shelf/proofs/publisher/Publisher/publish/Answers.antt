use Rattle.std.proofs.Common.{◌≡◌, ◌+◌, ◌-◌, ◌<◌, length, ◌∙◌, ap, arith}
use Rattle.version_shelf.specs.Known.{facts, pairs, values}
use Rattle.version_shelf.proofs.Noted.{facts_length, more_full, more_empty}
use Rattle.version_shelf.proofs.Values.{more_values}
use Rattle.version_shelf.proofs.publisher.Publisher.publish.Goals as goal

pub returns-in-Ok-clause-of : goal.returns-in-Ok-clause-of
returns-in-Ok-clause-of g c =
    let of = c.requires.of in
    let view = c.add.ensures.view in
    let old = facts c.args.self.now.notes.items in
    let len : length old ≡ length c.args.shelf.now.cells.items = facts_length c.args.self.now.notes.items c.args.shelf.now.cells.items of.names in record {
      table = c.add.ensures.table ∙ of.table;
      words = of.words;
      publishes = ap (λ me. me.0.publishes) view ∙ of.publishes;
      count = ap (λ me. me.0.count) view ∙ ap (λ k. k + 1) of.count;
      no_slot = ap (λ me. me.1) view ∙ of.no_slot;
      names = c.in-Ok.ensures.names ∙ of.names;
      number = of.number;
      room = (let r : c.args.self.now.count < length c.args.shelf.now.cells.items - 1 = c.requires.room in omega arith);
      few = of.few;
      full = more_full old (facts c.fill_at.new.notes.items) c.args.self.now.count c.args.value c.in-Ok.ensures.known (let r : c.args.self.now.count < length c.args.shelf.now.cells.items - 1 = c.requires.room in omega arith) of.full;
      empty = more_empty old (facts c.fill_at.new.notes.items) c.args.self.now.count c.args.value c.in-Ok.ensures.known of.empty;
    }

pub returns-in-Ok-clause-known : goal.returns-in-Ok-clause-known
returns-in-Ok-clause-known g c =
    let of = c.requires.of in
    let old = facts c.args.self.now.notes.items in
    let len : length old ≡ length c.args.shelf.now.cells.items = facts_length c.args.self.now.notes.items c.args.shelf.now.cells.items of.names in
    let r : c.args.self.now.count < length c.args.shelf.now.cells.items - 1 = c.requires.room in
    more_values c.args.self.now.number old (facts c.fill_at.new.notes.items) c.args.self.now.count c.args.value c.in-Ok.ensures.known (omega arith) of.empty

pub returns-in-Err-clause-of : goal.returns-in-Err-clause-of
returns-in-Err-clause-of g c =
    let of = c.requires.of in
    let same = c.in-Err.ensures.known.1 in record {
      table = of.table;
      words = of.words;
      publishes = of.publishes;
      count = of.count;
      no_slot = of.no_slot;
      names = c.in-Err.ensures.names ∙ of.names;
      number = of.number;
      room = of.room;
      few = of.few;
      full = λ k h. rw same (of.full k h);
      empty = λ k h. rw same (of.empty k h);
    }

pub returns-in-Err-clause-unchanged : goal.returns-in-Err-clause-unchanged
returns-in-Err-clause-unchanged g c = ap (λ l. pairs c.args.self.now.number (values l)) c.in-Err.ensures.known.1
