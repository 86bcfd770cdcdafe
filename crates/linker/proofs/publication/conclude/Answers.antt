use Rattle.std.proofs.Common.{◌<◌, List, length, sym, ap, subst, ◌∙◌, arith}
use Rattle.std.specs.List.{All}
use Rattle.grammar_tree.specs.Links.{Rules}
use Rattle.linker.specs.declared.defined.Defined.{Defined}
use Rattle.linker.specs.Linking.{IsSound, Links}
use Rattle.linker.proofs.LinkedAnswer as answer
use Rattle.linker.proofs.publication.conclude.Goals as goal

pub linked_of-requires : goal.linked_of-requires
linked_of-requires c = let w = c.requires.laid in answer.have_numbers c.args.set.now w.0 w.1 c.args.tables.items c.args.whole w.2

pub tell_late-requires : goal.tell_late-requires
tell_late-requires c =
    let w = c.requires.laid in
    record {
      places = subst (λ (all : List Defined). All (λ (rule : Defined). rule.doc.0 < length c.args.set.now) all) (sym c.deref.ensures.value)
          (answer.places c.args.set.now w.0 w.1 c.args.tables.items c.args.whole w.2);
      sized = ap (λ (all : List Defined). length all) c.deref.ensures.value ∙ answer.sized_defined c.args.set.now w.0 w.1 c.args.tables.items c.args.whole w.2
          ∙ sym (ap (λ (l : Rules). length l.rules) c.in_ok-linked.ensures);
    }

pub returns-then-faults-gt0 : goal.returns-then-faults-gt0
returns-then-faults-gt0 c = λ entries docs laid.
    let told = answer.told_late c.args.set.now entries docs c.args.tables.items c.args.whole laid c.in_ok-linked.linked c.in_ok-linked.ensures c.tell_late.new.faults c.deref.result.now
    c.deref.ensures.value c.requires.none c.in_ok-tell_late.ensures in
    subst (Links c.args.set.now entries c.args.number) (sym c.faulty.ensures)
    (answer.faulty_late c.args.set.now entries docs c.args.tables.items c.args.whole laid c.tell_late.new.faults told (omega arith))

pub new-requires : goal.new-requires
new-requires c =
    let w = c.requires.laid in
    let told = answer.told_late c.args.set.now w.0 w.1 c.args.tables.items c.args.whole w.2 c.in_ok-linked.linked c.in_ok-linked.ensures c.tell_late.new.faults c.deref.result.now
    c.deref.ensures.value c.requires.none c.in_ok-tell_late.ensures in
    record {
      version = answer.version c.args.set.now w.0 w.1 c.args.tables.items c.args.whole w.2 c.in_ok-linked.linked c.in_ok-linked.ensures c.tell_late.new.faults told (omega arith) c.args.number;
      indexes = answer.indexed c.args.set.now w.0 w.1 c.args.tables.items c.args.whole w.2 c.in_ok-linked.linked c.in_ok-linked.ensures c.args.number c.in_ok-indexes.indexes c.in_ok-indexes.ensures;
    }

pub returns : goal.returns
returns c = λ entries docs laid.
    let told = answer.told_late c.args.set.now entries docs c.args.tables.items c.args.whole laid c.in_ok-linked.linked c.in_ok-linked.ensures c.tell_late.new.faults c.deref.result.now
    c.deref.ensures.value c.requires.none c.in_ok-tell_late.ensures in
    subst (IsSound c.args.set.now entries c.args.number) (sym c.new.ensures)
    (answer.sound c.args.set.now entries docs c.args.tables.items c.args.whole laid c.in_ok-linked.linked c.in_ok-linked.ensures c.tell_late.new.faults told (omega arith) c.args.number)
