use Rattle.std.proofs.Common.{◌≡◌, map, ◌∙◌, ap, arith}
use Rattle.version_shelf.specs.Known.{facts, known}
use Rattle.version_shelf.proofs.Noted.{bound_by}
use Rattle.version_shelf.proofs.publisher.Publisher.reader.Goals as goal

pub returns-in_err-notes-clause-of : goal.returns-in_err-notes-clause-of
returns-in_err-notes-clause-of g c =
    let of = c.requires in
    let same = ap facts c.copies.ensures.same in record {
      table = of.table;
      words = of.words;
      publishes = of.publishes;
      count = of.count;
      no_slot = of.no_slot;
      names = ap (λ l. map (λ m. m.cell) l) c.copies.ensures.same ∙ of.names;
      number = of.number;
      room = of.room;
      few = of.few;
      full = λ k h. rw same (of.full k h);
      empty = λ k h. rw same (of.empty k h);
    }

pub returns-clause-of : goal.returns-clause-of
returns-clause-of g c =
    let of = c.requires in
    let view = c.note-seat.ensures.view.0 in
    let same = ap facts c.copies.ensures.same in record {
      table = c.note-seat.ensures.table.0 ∙ of.table;
      words = of.words;
      publishes = ap (λ me. me.0.publishes) view ∙ of.publishes;
      count = ap (λ me. me.0.count) view ∙ of.count;
      no_slot = ap (λ me. me.1) view ∙ of.no_slot;
      names = ap (λ l. map (λ m. m.cell) l) c.copies.ensures.same ∙ of.names;
      number = of.number;
      room = of.room;
      few = of.few;
      full = λ k h. rw same (of.full k h);
      empty = λ k h. rw same (of.empty k h);
    }

pub returns-clause-reader : goal.returns-clause-reader
returns-clause-reader g c =
    let of = c.requires in
    let view = c.note-seat.ensures.view.1 in
    let same = ap facts c.in_ok-notes.ensures.copies in
    let count : c.note-seat.result.me.0.count ≡ c.args.self.now.count = ap (λ me. me.0.count) view ∙ of.count in record {
      table = c.note-seat.ensures.table.1 ∙ of.table;
      words = of.words;
      reads = ap (λ me. me.0.publishes) view;
      no_slot = ap (λ me. me.1) view;
      names = ap (λ l. map (λ m. m.cell) l) c.in_ok-notes.ensures.copies ∙ of.names;
      number = of.number;
      room = of.room;
      few = of.few;
      met = omega arith;
      seen = rw same (of.full c.args.self.now.count (omega arith));
      bound = bound_by (facts c.args.self.now.notes.items) (facts c.in_ok-notes.notes.items) c.args.self.now.count c.note-seat.result.me.0.count same count of.empty;
    }

pub returns-clause-met : goal.returns-clause-met
returns-clause-met g c = ap (λ l. known c.args.self.now.number l) c.in_ok-notes.ensures.copies
