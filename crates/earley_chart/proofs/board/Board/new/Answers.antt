use Rattle.std.proofs.Common.{ℕ, ◌≡◌, ◌<◌, List, length, sym, ap, ◌∙◌, subst, arith}
use Rattle.std.specs.List.{Contains}
use Rattle.std.proofs.lemmas.Option.{slice_get_within}
use Rattle.earley_chart.proofs.Calls.{ordered_distinct}
use Rattle.earley_chart.proofs.Meets.{apart}
use Rattle.earley_chart.proofs.board.Board.new.Goals as goal

pub returns-clause-whole : goal.returns-clause-whole
returns-clause-whole c = record {
  ends = ap length c.new-2.ensures.items ∙ sym (ap length c.new.ensures.empty);
  waiting = ap length c.new-3.ensures.items ∙ sym (ap length c.new.ensures.empty);
  apart = λ at other s h h'. apart c.new.result.keys c.new.ensures.unique at other s h h';
  seen = omega arith;
  again = λ at h. (let none = subst (λ l. Contains l at) c.new-4.ensures.empty h in absurd (omega (arith, none.1)));
  waits = λ above at h. absurd (omega (arith, slice_get_within c.new-3.result.items at h.0 h.1, ap length c.new-3.ensures.items));
  distinct = ordered_distinct c.new-4.result.keys c.new-4.ensures.ordered;
  small = λ at e h. absurd (omega (arith, slice_get_within c.new-2.result.items at e h, ap length c.new-2.ensures.items));
}
