use Rattle.std.proofs.Common.{◌≡◌, ◌+◌, refl, sym, ap, subst, length, arith}
use Rattle.std.specs.Prelude.{slice_get, Some}
use Rattle.std.proofs.lemmas.Option.{slice_get_read}
use Rattle.worked_rows.proofs.ReadingLemmas.{AreRead, IsRead, have_readings, read_more}
use Rattle.worked_rows.proofs.tests.linking.readings.read_needed.Goals as goal

pub loop-place-preserved : goal.loop-place-preserved
loop-place-preserved c =
    let set = c.args.set.now in
    let shown = c.docs-doc-items.result.now in
    let n = c.loop-place.place in
    let doc = c.doc-item.result in
    let at : slice_get set n ≡ Some doc = subst (λ l. slice_get l n ≡ Some doc) c.docs-doc-items.ensures.same
    (slice_get_read shown (length shown) n doc refl c.loop-place-test.true c.doc-item.is) in
    subst (λ docs. AreRead set c.args.needed.now (n + 1) docs) (sym c.in_ok-push.ensures.items)
    (read_more doc c.in_ok-read_if.field-0 c.loop-place.invariant at
    (subst (λ b. IsRead b doc.text c.in_ok-read_if.field-0) c.has.ensures c.in_ok-read_if.ensures))

pub returns : goal.returns
returns c = λ entries places closure.
    let all : c.loop-place.place ≡ length c.args.set.now =
    omega (arith, c.loop-place-test.false, c.loop-place.auto.place-end, ap length c.docs-doc-items.ensures.same) in
    have_readings entries places closure (subst (λ n. AreRead c.args.set.now c.args.needed.now n c.loop-place.docs.items) all c.loop-place.invariant)
