use Rattle.std.proofs.Common.{◌≡◌, length, ap, subst, arith, ℕ}
use Rattle.std.proofs.lemmas.List.{length-take}
use Rattle.self_derivation.specs.code.Marks.{is_marked, row}
use Rattle.self_derivation.specs.code.Steps.{row_at}
use Rattle.self_derivation.proofs.CycleLemmas.{IsGraphOf, marks_exact}
use Rattle.self_derivation.proofs.rules.self_deriving.Goals as goal

pub returns-clause-sized : goal.returns-clause-sized
returns-clause-sized c =
    omega (
      arith,
      ap length c.truncate.ensures.items,
      length-take c.rule_count.result c.in_ok-marks.marks.items,
      c.rule_count.ensures.count,
      c.in_ok-marks.ensures.sized,
      c.in_ok-graph.ensures.sized,
    )

pub returns-clause-exact : goal.returns-clause-exact
returns-clause-exact c =
    let L = c.args.linked.now in
    let graph : IsGraphOf L (is_marked c.in_ok-empty.empty.items) c.in_ok-graph.graph = record {
      linked = c.rule_count.ensures.linked;
      exact = c.in_ok-empty.ensures.exact;
      has = subst (λ ms. (v : ℕ) → row c.in_ok-graph.graph v ≡ row_at L (is_marked ms) v) c.deref.ensures.value c.in_ok-graph.ensures.rows;
    } in
    rw (c.truncate.ensures.items, c.rule_count.ensures.count) (marks_exact L (is_marked c.in_ok-empty.empty.items) c.in_ok-graph.graph graph c.in_ok-marks.marks.items c.in_ok-marks.ensures.exact)
