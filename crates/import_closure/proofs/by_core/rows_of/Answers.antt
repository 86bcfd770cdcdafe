use Rattle.std.proofs.Common.{arith, ◌≡◌, ◌+◌, sym, subst, length}
use Rattle.rule_reader.specs.Sets.{AreRows, IsRow}
use Rattle.import_closure.specs.code.Cores.{AreFirstRows}
use Rattle.import_closure.proofs.CoreLemmas.{all_rows, rows_closed, one_more_row}
use Rattle.import_closure.proofs.by_core.rows_of.Goals as goal

pub loop-x-preserved : goal.loop-x-preserved
loop-x-preserved c =
    subst (AreFirstRows c.args.set.now (c.loop-x.x + 1)) (sym c.in_ok-push.ensures.ok)
    (one_more_row c.args.set.now c.loop-x.x c.loop-x.rows c.from_vec.result c.loop-x.invariant (subst (IsRow c.args.set.now c.loop-x.x) (sym c.from_vec.ensures) c.in_ok-row.ensures))

whole : (c : goal.After-loop-x) → AreRows c.args.set.now c.loop-x.rows
whole c =
    let ended : c.loop-x.x ≡ length c.args.set.now = omega (arith, c.loop-x-test.false, c.loop-x.auto.x-end, c.len-x-end.ensures) in
    all_rows c.args.set.now c.loop-x.rows (subst (λ n. AreFirstRows c.args.set.now n c.loop-x.rows) ended c.loop-x.invariant)

pub returns-clause-rows : goal.returns-clause-rows
returns-clause-rows c = whole c

pub returns-clause-closed : goal.returns-clause-closed
returns-clause-closed c = rows_closed c.args.set.now c.loop-x.rows c.requires.keyed (whole c)
