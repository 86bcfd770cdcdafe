use Rattle.std.proofs.Common.{◌≡◌, ℕ, max, map, sym, ◌∙◌, subst, ap, arith}
use Rattle.version_shelf.specs.Known.{facts, pairs, values, Keeps, OneValue}
use Rattle.version_shelf.proofs.Noted.{met_seen, met_bound}
use Rattle.version_shelf.proofs.Knowing.{learnt_all, learnt_agrees}
use Rattle.version_shelf.proofs.Values.{keeps_values, agree_values}
use Rattle.version_shelf.proofs.reader.Reader.meet.Goals as goal

pub learn_all-requires-clause-known : goal.learn_all-requires-clause-known
learn_all-requires-clause-known g c = λ k h. c.requires.publisher.full k (omega arith)

pub returns-clause-reader : goal.returns-clause-reader
returns-clause-reader g c =
    let of = c.requires.reader in
    let his = c.requires.publisher in
    let note = c.note-note.ensures.view.1 in
    let view = c.inform.ensures.view in
    let noted : c.note-note.result.me.0.count ≡ c.args.publisher.now.count = ap (λ me. me.0.count) note ∙ his.count in
    let count : c.inform.new.seat.me.0.count ≡ max c.args.self.now.seat.me.0.count c.args.publisher.now.count = ap (λ me. me.0.count) view ∙ ap (λ k. max c.args.self.now.seat.me.0.count k) noted in
    let top : c.max-self.result ≡ max c.args.self.now.last c.args.publisher.now.count = omega arith in record {
      table = c.inform.ensures.table ∙ of.table;
      words = of.words;
      reads = ap (λ me. me.0.publishes) view ∙ of.reads;
      no_slot = ap (λ me. me.1) view ∙ of.no_slot;
      names = c.learn_all.ensures.names ∙ of.names;
      number = of.number;
      room = (let a = of.room in let b = his.room in omega arith);
      few = of.few;
      met = (let m = of.met in omega arith);
      seen = met_seen (facts c.args.self.now.notes.items) (facts c.learn_all.new.mine.items) (facts c.args.publisher.now.notes.items) c.args.self.now.last c.args.publisher.now.count c.max-self.result top c.learn_all.ensures.keeps c.learn_all.ensures.learnt of.seen (his.full c.args.publisher.now.count (omega arith));
      bound = met_bound (facts c.args.self.now.notes.items) (facts c.learn_all.new.mine.items) c.args.publisher.now.count c.args.self.now.seat.me.0.count c.inform.new.seat.me.0.count count c.learn_all.ensures.others of.bound;
    }

pub returns-clause-publisher : goal.returns-clause-publisher
returns-clause-publisher g c =
    let of = c.requires.publisher in
    let view = c.note-note.ensures.view.0 in
    let same = ap facts c.learn_all.ensures.same in record {
      table = c.note-note.ensures.table.0 ∙ of.table;
      words = of.words;
      publishes = ap (λ me. me.0.publishes) view ∙ of.publishes;
      count = ap (λ me. me.0.count) view ∙ of.count;
      no_slot = ap (λ me. me.1) view ∙ of.no_slot;
      names = ap (λ l. map (λ m. m.cell) l) c.learn_all.ensures.same ∙ of.names;
      number = of.number;
      room = of.room;
      few = of.few;
      full = λ k h. rw same (of.full k h);
      empty = λ k h. rw same (of.empty k h);
    }

pub returns-clause-keeps : goal.returns-clause-keeps
returns-clause-keeps g c = keeps_values c.args.self.now.number (facts c.args.self.now.notes.items) (facts c.learn_all.new.mine.items) c.learn_all.ensures.keeps

pub returns-clause-met : goal.returns-clause-met
returns-clause-met g c =
    let mine = facts c.learn_all.new.mine.items in
    let theirs = facts c.args.publisher.now.notes.items in
    let number : c.args.self.now.number ≡ c.args.publisher.now.number = c.requires.reader.number ∙ sym c.requires.publisher.number in
    subst (λ (n : ℕ). Keeps (pairs n (values theirs)) (pairs c.args.self.now.number (values mine))) number
    (keeps_values c.args.self.now.number theirs mine (learnt_all mine theirs c.args.publisher.now.count c.learn_all.ensures.learnt c.requires.publisher.empty))

pub returns-clause-agrees : goal.returns-clause-agrees
returns-clause-agrees g c =
    let mine = facts c.learn_all.new.mine.items in
    let theirs = facts c.args.publisher.now.notes.items in
    let number : c.args.self.now.number ≡ c.args.publisher.now.number = c.requires.reader.number ∙ sym c.requires.publisher.number in
    subst (λ (n : ℕ). OneValue (pairs c.args.self.now.number (values mine)) (pairs n (values theirs))) number
    (agree_values c.args.self.now.number mine theirs (learnt_agrees mine theirs c.args.publisher.now.count c.learn_all.ensures.learnt c.requires.publisher.empty))
