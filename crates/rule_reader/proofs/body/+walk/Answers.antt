use Rattle.std.proofs.Common.{◌≡◌, ◌+◌, List, [], ◌∷◌, ◌++◌, take, Some, sym, subst, ◌∙◌, ap}
use Rattle.grammar_tree.specs.declared.expansion.Expansion.{Expansion}
use Rattle.grammar_tree.specs.declared.expansion.Expansion.TheVariants as e
use Rattle.abnf_parser.specs.declared.written.Written.{Written}
use Rattle.abnf_parser.specs.declared.written.Written.TheVariants as w
use Rattle.rule_reader.specs.code.Walks.{Walked, PartsWalked}
use Rattle.rule_reader.proofs.Rests.{front_next}
use Rattle.rule_reader.proofs.Walks.{nothing_read, sequence_read, alternatives_read, optional_read, weighted_read, repeated_read, no_part_read, part_read, parts_each}
use Rattle.rule_reader.proofs.body.+walk.Goals as goal

pub read_body-returns-in-Nothing : goal.read_body-returns-in-Nothing
read_body-returns-in-Nothing t c = subst (λ (y : Written). Walked c.args.text.now c.args.context y c.args.found.now c.args.found.now e.Null) (sym c.in-Nothing.is) nothing_read

pub read_body-returns-in_ok-read-in-Sequence : goal.read_body-returns-in_ok-read-in-Sequence
read_body-returns-in_ok-read-in-Sequence t c =
    let read = c.in_ok-read-in-Sequence.read in
    subst (λ (y : Written). Walked c.args.text.now c.args.context y c.args.found.now c.read_parts.new.found (e.Seq read)) (sym c.in-Sequence.is)
    (sequence_read c.in-Sequence.parts (subst (λ ps. PartsWalked c.args.text.now c.args.context ps c.args.found.now c.read_parts.new.found read) c.as_slice.ensures c.in_ok-read-in-Sequence.ensures))

pub read_body-returns-in_ok-read-in-Alternatives : goal.read_body-returns-in_ok-read-in-Alternatives
read_body-returns-in_ok-read-in-Alternatives t c =
    let read = c.in_ok-read-in-Alternatives.read in
    subst (λ (y : Written). Walked c.args.text.now c.args.context y c.args.found.now c.read_parts-in-Alternatives.new.found (e.Alt read)) (sym c.in-Alternatives.is)
    (alternatives_read c.in-Alternatives.parts
    (subst (λ ps. PartsWalked c.args.text.now c.args.context ps c.args.found.now c.read_parts-in-Alternatives.new.found read) c.as_slice-in-Alternatives.ensures c.in_ok-read-in-Alternatives.ensures))

pub read_body-returns-in_ok-meant-in-Weighted : goal.read_body-returns-in_ok-meant-in-Weighted
read_body-returns-in_ok-meant-in-Weighted t c =
    let meant = c.in_ok-meant-in-Weighted.meant in
    subst (λ (y : Written). Walked c.args.text.now c.args.context y c.args.found.now c.read_body.new.found meant) (sym c.in-Weighted.is)
    (weighted_read c.in-Weighted.weight c.in-Weighted.inner c.in_ok-read_weight-in-Weighted.ensures
    (subst (λ (y : Written). Walked c.args.text.now c.args.context y c.read_weight.new.found c.read_body.new.found meant) c.get.ensures c.in_ok-meant-in-Weighted.ensures))

pub read_body-returns-in_ok-new-in-Optional : goal.read_body-returns-in_ok-new-in-Optional
read_body-returns-in_ok-new-in-Optional t c =
    let meant = c.in_ok-meant-in-Optional.meant in
    let whole = optional_read c.in-Optional.inner
    (subst (λ (y : Written). Walked c.args.text.now c.args.context y c.args.found.now c.read_body-in-Optional.new.found meant) c.get-in-Optional.ensures c.in_ok-meant-in-Optional.ensures) in
    subst (λ (y : Written). Walked c.args.text.now c.args.context y c.args.found.now c.read_body-in-Optional.new.found (e.Rep 0 (Some 1) c.in_ok-new-in-Optional.field-0)) (sym c.in-Optional.is)
    (subst (λ (x : Expansion). Walked c.args.text.now c.args.context (w.Optional c.in-Optional.inner) c.args.found.now c.read_body-in-Optional.new.found (e.Rep 0 (Some 1) x)) (sym c.in_ok-new-in-Optional.ensures) whole)

pub read_body-returns-in_ok-whole-in-Repeated : goal.read_body-returns-in_ok-whole-in-Repeated
read_body-returns-in_ok-whole-in-Repeated t c =
    let meant = c.in_ok-meant-in-Repeated.meant in
    subst (λ (y : Written). Walked c.args.text.now c.args.context y c.args.found.now c.read_body-in-Repeated.new.found c.in_ok-whole-in-Repeated.whole) (sym c.in-Repeated.is)
    (repeated_read c.in-Repeated.times c.in-Repeated.inner c.in_ok-turns-in-Repeated.ensures
    (subst (λ (y : Written). Walked c.args.text.now c.args.context y c.read_times.new.found c.read_body-in-Repeated.new.found meant) c.get-in-Repeated.ensures c.in_ok-meant-in-Repeated.ensures)
    c.in_ok-whole-in-Repeated.ensures)

pub read_parts-loop-part-init : goal.read_parts-loop-part-init
read_parts-loop-part-init t c = (
  subst (λ (xs : List Expansion). PartsWalked c.args.text.now c.args.context [] c.args.found.now c.args.found.now xs) (sym c.new-read.ensures) no_part_read,
  parts_each c.args.text.now c.args.parts.now c.requires,
)

pub read_parts-loop-part-preserved : goal.read_parts-loop-part-preserved
read_parts-loop-part-preserved t c =
    let h = c.loop-part.invariant in
    let i = c.loop-part.part-index in
    let new = c.read_body.new.found in
    let next = front_next c.args.parts.now i c.part-item.result c.loop-part-test.true c.part-item.is in
    let one = part_read (take i c.args.parts.now) c.part-item.result h.0 c.in_ok-read_body.ensures in (
      subst (λ (xs : List Expansion). PartsWalked c.args.text.now c.args.context (take (i + 1) c.args.parts.now) c.args.found.now new xs) (sym c.in_ok-push.ensures.ok)
          (subst (λ (ps : List Written). PartsWalked c.args.text.now c.args.context ps c.args.found.now new (c.loop-part.read ++ c.in_ok-read_body.field-0 ∷ [])) (sym next) one),
      h.1,
    )
