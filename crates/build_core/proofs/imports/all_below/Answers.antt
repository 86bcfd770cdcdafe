use Rattle.std.proofs.Common.{◌≡◌, ◌<◌, ℕ, List, length, inl, inr, refl, sym, ◌∙◌, subst, arith}
use Rattle.std.specs.Prelude.{slice_index_or}
use Rattle.std.specs.List.{Contains}
use Rattle.std.proofs.lemmas.List.Elements.{All-contains, Contains-get_or}
use Rattle.vg_base.specs.declared.numbers.DocIx.{DocIx}
use Rattle.build_core.specs.Rows.{ix, row}
use Rattle.build_core.proofs.Opens.{row_at, row_past, inside_or_past}
use Rattle.build_core.proofs.imports.all_below.Goals as goal

pub returns-then-not-are_below : goal.returns-then-not-are_below
returns-then-not-are_below c =
    let same = row_at c.args.rows.now c.loop-row.row-index c.row-item.result c.loop-row-test.true ∙ sym c.row-item.is ∙ sym c.as_slice.ensures in (
      λ h. cc,
      λ all. c.if-not-are_below.ensures.1 (λ k d low.
          let e : DocIx = slice_index_or c.as_slice.result.now k d in
          all c.loop-row.row-index e.0 (subst (λ (l : List DocIx). Contains l e) (sym same) (Contains-get_or c.as_slice.result.now k d low))),
    )

pub loop-row-preserved : goal.loop-row-preserved
loop-row-preserved c = λ x y low im.
    let same = row_at c.args.rows.now c.loop-row.row-index c.row-item.result c.loop-row-test.true ∙ sym c.row-item.is ∙ sym c.as_slice.ensures in
    elim (inside_or_past x c.loop-row.row-index) [
      | inl before ↦ c.loop-row.invariant x y before im
      | inr here ↦
          let at : x ≡ c.loop-row.row-index = omega arith in
          All-contains (λ (d : DocIx). d.0 < length c.args.rows.now) c.as_slice.result.now (ix y) (c.if-not-are_below.ensures.0 refl)
          (subst (λ (l : List DocIx). Contains l (ix y)) same (subst (λ (k : ℕ). Contains (row c.args.rows.now k) (ix y)) at im))
    ]

pub returns : goal.returns
returns c = (
  λ h x y im. elim (inside_or_past x c.loop-row.row-index) [
    | inl before ↦ c.loop-row.invariant x y before im
    | inr past ↦ absurd (row_past c.args.rows.now x y (omega arith) im)
  ],
  λ all. refl,
)
