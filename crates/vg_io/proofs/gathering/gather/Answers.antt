-- Bytes move from the source to what is held and on to the line, up to its end.
use Rattle.std.proofs.Common.{arith, ◌≡◌, ℕ, sym, ◌∙◌, [], Ok, inl, inr, refl}
use Rattle.std.specs.declared.result.Result.{Result}
use Rattle.vg_io.specs.declared.source.Failed.{Failed}
use Rattle.vg_io.specs.code.Gathering.{InLine, taking, ahead}
use Rattle.vg_io.specs.Lines.{LeavesNoLine}
use Rattle.vg_io.specs.declared.limits.TheConstants.{LINE_LIMIT}
use Rattle.vg_io.proofs.Reading.{InLine-moved, InLine-filled, EndsLine-last, LeavesNoLine-from, LeavesNoLine-kept}
use Rattle.vg_io.proofs.gathering.gather.Goals as goal
use Rattle.vg_io.proofs.gathering.gather.Goals.{In-Ok-false}
use Rattle.vg_io.proofs.gathering.gather.Given.{Over}

Ok-same : (m n : ℕ) (r : Result ℕ Failed) → r ≡ Ok m → r ≡ Ok n → m ≡ n
Ok-same m n r p q = cc

-- all that is held was moved
moved : (g : Over) (c : In-Ok-false g)
    → InLine LINE_LIMIT
    (taking c.args.chunk.now c.args.taken.now (g.S.Source.told c.args.source.now).left)
    (taking [] c.loop-most.taken (g.S.Source.told c.loop-most.source).left) c.take_part.new.line
moved g c =
    let h = rw c.in-Ok-false.field-0-test at c.in-Ok-false.ensures in
    InLine-moved c.take_part.new.line c.take_part.new.self c.loop-most.invariant.line h

left_over : (g : Over) (c : In-Ok-false g)
    → LeavesNoLine
    (ahead (taking c.args.chunk.now c.args.taken.now (g.S.Source.told c.args.source.now).left))
    (g.S.Source.told c.loop-most.source).left
left_over g c = let i = moved g c in LeavesNoLine-from _ _ i.front i.no_feed i.consumed

pub returns-then-is_over-clause-rest :
    goal.returns-then-is_over-clause-rest
returns-then-is_over-clause-rest g c _ =
    left_over g (goal.at.returns-then-is_over-clause-rest g c).In-Ok-false

pub returns-in-Err-fill-clause-rest : goal.returns-in-Err-fill-clause-rest
returns-in-Err-fill-clause-rest g c _ =
    LeavesNoLine-kept _ _ _ (left_over g (goal.at.returns-in-Err-fill-clause-rest g c).In-Ok-false)
    c.in-Err-fill.ensures.fills.bytes

pub returns-in-Ok-eq0-clause-last : goal.returns-in-Ok-eq0-clause-last
returns-in-Ok-eq0-clause-last g c e =
    let i = moved g (goal.at.returns-in-Ok-eq0-clause-last g c).In-Ok-false in
    let bytes = c.in-Ok-eq0.ensures.fills.bytes in
    EndsLine-last _ _ _ c.fill.new.self i (
      record {
        read = bytes.0;
        none = sym c.in-Ok-eq0.ensures.within.1
            ∙ c.in-Ok-eq0.field-0-test;
        end = bytes.1 c.in-Ok-eq0.field-0-test;
      },
      c.gathered_at_end.ensures.last e,
    )

pub loop-most-preserved : goal.loop-most-preserved
loop-most-preserved g c = record {
  line =
      let i = moved g (goal.at.loop-most-preserved g c).In-Ok-false in
      rw c.in-Ok.ensures.within.1
      (InLine-filled _ _ _ c.fill.new.self i c.in-Ok.ensures.fills.bytes.0);
  small = omega (arith, c.in-Ok.ensures.within, c.loop-most.invariant.small);
  grown = omega (arith, c.loop-most.invariant.grown);
  unmet = (
    λ e. c.loop-most.invariant.unmet.0
        (elim (c.in-Ok.ensures.fills.ended.0 e) [
          | inl before ↦ before
          | inr none ↦ absurd
              (c.in-Ok.count-test.1 (Ok-same _ _ _ refl none))
        ]),
    λ e. c.in-Ok.ensures.fills.ended.1 (inl (c.loop-most.invariant.unmet.1 e)),
  );
  faults = c.in-Ok.ensures.fills.faults ∙ c.loop-most.invariant.faults;
  reads = let some = c.in-Ok.count-test.1 in omega (
    arith,
    c.loop-most.invariant.reads,
    c.in-Ok.ensures.fills.reads,
  );
}
