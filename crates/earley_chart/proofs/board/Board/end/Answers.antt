use Rattle.std.proofs.Common.{ℕ, ◌≡◌, ◌≢◌, ◌<◌, ◌≤◌, ◌^◌, ◌⊎◌, length, refl, sym, ap, subst, ◌∙◌, Some, arith, eqb, eq-eqb, true≢false}
use Rattle.std.specs.Prelude.{slice_get}
use Rattle.std.specs.List.{Contains}
use Rattle.earley_chart.specs.declared.places.Places.{Places}
use Rattle.earley_chart.specs.declared.board.Board.{Board}
use Rattle.earley_chart.proofs.Lists.{get_from}
use Rattle.earley_chart.proofs.Ends.{Raised, raised_whole, raised_ended}
use Rattle.earley_chart.proofs.board.Board.end.Goals as goal

now : (c : goal.After-self-2-1) → Board
now c = record {
  spots = c.args.self.now.spots;
  ends = Rattle.std.specs.Vec.with_item c.args.self.now.ends c.args.at c.with-all.result;
  waiting = Rattle.std.specs.Vec.with_item c.args.self.now.waiting c.args.at c.clear.new.self;
  seen = c.args.self.now.seen;
  again = c.call.new.again;
}

raised : (c : goal.After-self-2-1) → Raised c.args.self.now (now c) c.args.at c.args.ends
unfolding now
raised c =
    let fits : c.args.at < length c.args.self.now.ends.items = subst (λ n. c.args.at < n) (sym c.requires.whole.ends) c.requires.at in
    let waits : c.args.at < length c.args.self.now.waiting.items = subst (λ n. c.args.at < n) (sym c.requires.whole.waiting) c.requires.at in
    let differ : c.with-all.result.0 ≢ c.index.result.now.0 = λ e. true≢false (sym (eq-eqb _ _ e) ∙ sym c.if-eq.ensures) in
    record {
      spots = refl;
      seen = refl;
      known = c.index.result.now;
      all = c.with-all.result;
      here = get_from c.args.self.now.ends.items c.args.at c.index.result.now fits c.index.ensures;
      set = refl;
      both = c.with-all.ensures.both;
      rises = omega (arith, differ, c.with-all.ensures.rises);
      small = c.with-all.ensures.small;
      was = c.index-2.result.now;
      waited = get_from c.args.self.now.waiting.items c.args.at c.index-2.result.now waits c.index-2.ensures;
      cleared = c.clear.new.self;
      empty = c.clear.ensures.empty;
      waiting = refl;
      called = λ other h. c.in_ok-call.ensures.all other (subst (λ l. Contains l other) (sym c.as_slice.ensures.keys) h);
      kept = c.in_ok-call.ensures.kept;
      from = λ other h. subst (λ l. Contains c.args.self.now.again.keys other ⊎ Contains l other) c.as_slice.ensures.keys (c.in_ok-call.ensures.from other h);
      distinct = c.in_ok-call.ensures.distinct;
    }

pub returns-clause-whole : goal.returns-clause-whole
unfolding now
returns-clause-whole c = raised_whole c.args.self.now (now c) c.args.at c.args.ends (raised c) c.requires.whole

pub returns-clause-ended : goal.returns-clause-ended
unfolding now
returns-clause-ended c = raised_ended c.args.self.now (now c) c.args.at c.args.ends (raised c)
