use Rattle.std.proofs.Common.{ℕ, ◌+◌, ◌<◌, ◌≡◌, ◌⊎◌, inl, inr, get_or, length, sym, ◌∙◌, ap, subst, ⊎_elim, arith}
use Rattle.std.specs.List.{Contains}
use Rattle.std.proofs.lemmas.Bool.{cases_lt}
use Rattle.std.proofs.lemmas.List.Elements.{Contains-get_or}
use Rattle.earley_chart.proofs.Calls.{inserted_in_order, ordered_distinct, read_one}
use Rattle.earley_chart.proofs.board.call.Goals as goal

pub loop-above-preserved : goal.loop-above-preserved
loop-above-preserved c =
    let here : c.loop-above.above-index < length c.args.waiting.now = omega arith in
    let one = inserted_in_order c.loop-above.again c.insert.new.self (get_or c.args.waiting.now c.loop-above.above-index 0) c.in_ok-insert.ensures.updates in
    record {
      all = λ at k lt e. ⊎_elim
          (λ before. one.kept at (c.loop-above.invariant.all at k before e))
          (λ last.
          let same : k ≡ c.loop-above.above-index = omega (arith, lt, last) in
          let value : get_or c.args.waiting.now c.loop-above.above-index 0 ≡ at =
          read_one c.args.waiting.now c.loop-above.above-index 0 at here ∙ sym (ap (λ n. get_or c.args.waiting.now n at) same) ∙ e in
          subst (λ n. Contains c.insert.new.self.keys n) value one.has)
          (cases_lt k c.loop-above.above-index);
      kept = λ at h. one.kept at (c.loop-above.invariant.kept at h);
      from = λ at h. ⊎_elim (λ old. c.loop-above.invariant.from at old)
          (λ new. inr (subst (λ n. Contains c.args.waiting.now n) new (Contains-get_or c.args.waiting.now c.loop-above.above-index 0 here))) (one.from at h);
      distinct = λ d. ordered_distinct c.insert.new.self.keys c.in_ok-insert.ensures.ordered;
    }
