use Rattle.std.proofs.Common.{◌≡◌, ◌+◌, ◌∙◌, false, sym, arith}
use Rattle.std.specs.Prelude.{is_some}
use Rattle.vg_base.specs.Pairs.{find, put}
use Rattle.linker.proofs.TableLemmas.{IsNext, none_of, set_next, kept_next}
use Rattle.linker.proofs.tables.names_of.Goals as goal
use Rattle.linker.proofs.tables.names_of.Goals.{then-not-contains+in_ok-copy+in_ok-set, else-not-contains}

pub loop-rule-preserved : goal.loop-rule-preserved
loop-rule-preserved c =
    let before = c.args.before in
    let rules = c.args.rules.now in
    let names = c.loop-rule.names in
    let new = c.if-not-contains.names in
    let i = c.loop-rule.rule-index in
    let rule = c.rule-item.result in
    let next : IsNext before rules names i rule = record { are = c.loop-rule.invariant.named; below = c.loop-rule-test.true; is = c.rule-item.is } in
    let sum = rw c.in_ok-at.ensures.ok_part at c.checked_add.ensures in
    record {
      named = elim c.if-not-contains.branch [
        | then-not-contains+in_ok-copy+in_ok-set w ↦
            let no : is_some (find rule.name names) ≡ false = sym w.if-not-contains.ensures in
            let done : new ≡ put rule.name (record { rule = record { 0 = before + i }; public = rule.public }) names =
            w.names-is ∙ w.in_ok-set.ensures.ok ∙ (λ j. put (w.in_ok-copy.ensures j) (record { rule = record { 0 = c.loop-rule.invariant.at j }; public = rule.public }) names) in
            set_next new next (none_of (find rule.name names) no) done
        | else-not-contains w ↦
            kept_next new next (sym w.if-not-contains.ensures) w.names-is
      ];
      at = omega (arith, sum.1, c.loop-rule.invariant.at);
    }
