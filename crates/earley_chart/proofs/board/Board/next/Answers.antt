use Rattle.std.proofs.Common.{◌≤◌, refl, subst}
use Rattle.earley_chart.proofs.Calls.{ordered_distinct}
use Rattle.earley_chart.proofs.Takes.{taken, idle, kept}
use Rattle.earley_chart.proofs.board.Board.next.Goals as goal

pub returns-clause-whole : goal.returns-clause-whole
returns-clause-whole c = record {
  ends = c.requires.ends;
  waiting = c.requires.waiting;
  apart = c.requires.apart;
  seen = c.requires.seen;
  again = λ at h. c.requires.again at (kept c.pop_last.result _ _ c.pop_last.ensures.removal c.pop_last.ensures.unchanged at h);
  waits = c.requires.waits;
  distinct = ordered_distinct c.pop_last.new.self.keys c.pop_last.ensures.ordered;
  small = c.requires.small;
}

pub returns-clause-some : goal.returns-clause-some
returns-clause-some c = taken c.args.self.now _ refl refl c.pop_last.result c.requires (subst (λ n. n ≤ c.args.self.now.seen) c.len.ensures.len c.if-self-len.false) c.pop_last.ensures.removal

pub returns-clause-none : goal.returns-clause-none
returns-clause-none c = idle c.args.self.now c.pop_last.result (subst (λ n. n ≤ c.args.self.now.seen) c.len.ensures.len c.if-self-len.false) c.pop_last.ensures.variant
