use Rattle.std.proofs.Common.{◌≡◌, length, map, ◌∙◌, sym, ap, arith}
use Rattle.std.proofs.Math.Seq.{map-set_same}
use Rattle.std.proofs.lemmas.List.{length-map}
use Rattle.version_shelf.proofs.Noted.{same_cell, kept, keeps_set, learnt_set, knows_else, fact_at}
use Rattle.version_shelf.proofs.notes.learn_all.Goals as goal

pub learn-requires-clause-cell : goal.learn-requires-clause-cell
learn-requires-clause-cell g c =
    let names = c.loop-k.invariant.names ∙ (c.requires.names ∙ ap (λ l. map (λ n. n.cell) l) (sym c.loop-k.invariant.same)) in
    let lm : length c.loop-k.mine.items ≡ length c.args.mine.now.items = sym (length-map c.loop-k.mine.items (λ n. n.cell)) ∙ (ap length c.loop-k.invariant.names ∙ length-map c.args.mine.now.items (λ n. n.cell)) in
    let lt : length c.loop-k.mine.items ≡ length c.loop-k.theirs.items = sym (length-map c.loop-k.mine.items (λ n. n.cell)) ∙ (ap length names ∙ length-map c.loop-k.theirs.items (λ n. n.cell)) in
    same_cell c.loop-k.mine.items c.loop-k.theirs.items c.loop-k.k c.index_mut.result.now c.index_mut-in-loop-k.result.now names (omega arith) (omega arith) c.index_mut.ensures.value c.index_mut-in-loop-k.ensures.value

pub learn-requires-clause-knows : goal.learn-requires-clause-knows
learn-requires-clause-knows g c =
    let names = c.loop-k.invariant.names ∙ (c.requires.names ∙ ap (λ l. map (λ n. n.cell) l) (sym c.loop-k.invariant.same)) in
    let lm : length c.loop-k.mine.items ≡ length c.args.mine.now.items = sym (length-map c.loop-k.mine.items (λ n. n.cell)) ∙ (ap length c.loop-k.invariant.names ∙ length-map c.args.mine.now.items (λ n. n.cell)) in
    let lt : length c.loop-k.mine.items ≡ length c.loop-k.theirs.items = sym (length-map c.loop-k.mine.items (λ n. n.cell)) ∙ (ap length names ∙ length-map c.loop-k.theirs.items (λ n. n.cell)) in
    let there = c.requires.known c.loop-k.k c.loop-k-test.true in
    let here = fact_at c.loop-k.theirs.items c.loop-k.k c.index_mut-in-loop-k.result.now (omega arith) in
    (there.0, ap (λ n. n.known) c.index_mut-in-loop-k.ensures.value ∙ (sym here ∙ rw c.loop-k.invariant.same there.1))

pub loop-k-preserved : goal.loop-k-preserved
loop-k-preserved g c =
    let inv = c.loop-k.invariant in
    let names = inv.names ∙ (c.requires.names ∙ ap (λ l. map (λ n. n.cell) l) (sym inv.same)) in
    let lm : length c.loop-k.mine.items ≡ length c.args.mine.now.items = sym (length-map c.loop-k.mine.items (λ n. n.cell)) ∙ (ap length inv.names ∙ length-map c.args.mine.now.items (λ n. n.cell)) in
    let lt : length c.loop-k.mine.items ≡ length c.loop-k.theirs.items = sym (length-map c.loop-k.mine.items (λ n. n.cell)) ∙ (ap length names ∙ length-map c.loop-k.theirs.items (λ n. n.cell)) in
    let here = c.index_mut.result.now in
    let there = c.index_mut-in-loop-k.result.now in
    let is = c.index_mut.ensures.value in
    let is_there = c.index_mut-in-loop-k.ensures.value in record {
      same = kept c.loop-k.theirs.items c.loop-k.k there c.learn.new.theirs is_there c.learn.ensures.same ∙ inv.same;
      names = map-set_same (λ n. n.cell) c.loop-k.mine.items c.loop-k.k c.learn.new.mine here (c.learn.ensures.takes.0 ∙ ap (λ n. n.cell) is) ∙ inv.names;
      keeps = λ j x h.
          keeps_set c.loop-k.mine.items c.loop-k.k c.learn.new.mine here (omega arith) (λ y e. c.learn.ensures.takes.1 ∙ c.learn.ensures.agrees y (ap (λ n. n.known) is ∙ e)) j x (inv.keeps j x h);
      learnt = rw (← inv.same) (learnt_set c.loop-k.mine.items c.loop-k.theirs.items c.loop-k.k c.learn.new.mine there (omega arith) (omega arith) is_there c.learn.ensures.takes.1 (rw inv.same inv.learnt));
      others = λ j h. knows_else c.loop-k.mine.items c.loop-k.k j c.learn.new.mine (λ z. omega arith) ∙ inv.others j (omega arith);
    }
