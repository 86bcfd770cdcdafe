use Rattle.std.proofs.Common.{ℕ, ◌↔◌, subst}
use Rattle.std.specs.Prelude.{Contains}
use Rattle.rule_reader.specs.Sets.{ix}
use Rattle.import_closure.specs.code.Rows.{HasKeyAmong}
use Rattle.import_closure.proofs.RowLemmas.{row_of_doc}
use Rattle.import_closure.proofs.rows.row_of_doc.Goals as goal

pub returns : goal.returns
returns c =
    row_of_doc c.texts_have_one_answer.ensures.document c.args.set.now c.args.x.0 c.args.doc.now c.in_ok-row.row.items (
      c.requires.reads,
      (
        c.in_ok-keys.keys.keys,
        c.in_ok-keys.ensures,
        (
          c.in_ok-row.ensures.rising,
          subst (λ docs. (y : ℕ) → Contains c.in_ok-row.row.items (ix y) ↔ HasKeyAmong c.in_ok-keys.keys.keys docs y) c.docs.ensures.same c.in_ok-row.ensures.exact,
        ),
      ),
    )
