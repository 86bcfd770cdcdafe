use Rattle.std.proofs.Common.{sym, subst, ◌∙◌, arith}
use Rattle.std.proofs.Common.{Ok, Err, Result}
use Rattle.vg_base.specs.Refusals.{Gives, Meets}
use Rattle.vg_base.specs.declared.refused.Refused.{Refused}
use Rattle.script_reader.specs.Answers.{script_answer}
use Rattle.script_reader.specs.Reading.{Reads}
use Rattle.script_reader.specs.declared.refused.ScriptSyntax.{ScriptSyntax}
use Rattle.script_reader.proofs.Depths.{shallow}
use Rattle.script_reader.proofs.OneAnswer.{reads_gives}
use Rattle.script_reader.proofs.ReadLoop.{SoFar, begins, comes_to}
use Rattle.script_reader.proofs.read.read_characters.Goals as goal

pub loop-next-init : goal.loop-next-init
loop-next-init c = subst (SoFar c.args.text.now 0) (sym c.start-state.ensures) (begins c.args.text.now)

pub advanced-requires-clause-within : goal.advanced-requires-clause-within
advanced-requires-clause-within c = c.loop-next.invariant.within

pub overflow_add-at : goal.overflow_add-at
overflow_add-at c =
    let h = comes_to c.args.text.now c.loop-next.at c.loop-next.state _ (sym c.in-On.is ∙ c.in_ok-next.ensures) c.loop-next.invariant in
    omega (arith, h.1.1)

pub loop-next-smaller : goal.loop-next-smaller
loop-next-smaller c =
    let h = comes_to c.args.text.now c.loop-next.at c.loop-next.state _ (sym c.in-On.is ∙ c.in_ok-next.ensures) c.loop-next.invariant in
    omega (arith, h.1.0, h.1.1)

pub loop-next-preserved : goal.loop-next-preserved
loop-next-preserved c = (comes_to c.args.text.now c.loop-next.at c.loop-next.state _ (sym c.in-On.is ∙ c.in_ok-next.ensures) c.loop-next.invariant).0

pub returns-in-Read-clause-reads : goal.returns-in-Read-clause-reads
returns-in-Read-clause-reads c = comes_to c.args.text.now c.loop-next.at c.loop-next.state _ (sym c.in-Read.is ∙ c.in_ok-next.ensures) c.loop-next.invariant

pub returns-in-Read-clause-gives : goal.returns-in-Read-clause-gives
returns-in-Read-clause-gives c =
    reads_gives c.args.text.now (Ok c.in-Read.script) (comes_to c.args.text.now c.loop-next.at c.loop-next.state _ (sym c.in-Read.is ∙ c.in_ok-next.ensures) c.loop-next.invariant)

pub returns-in-Read-clause-shallow : goal.returns-in-Read-clause-shallow
returns-in-Read-clause-shallow c =
    let read = comes_to c.args.text.now c.loop-next.at c.loop-next.state _ (sym c.in-Read.is ∙ c.in_ok-next.ensures) c.loop-next.invariant in
    shallow _ c.in-Read.script read.0.spells

pub returns-in-Unfit-clause-reads : goal.returns-in-Unfit-clause-reads
returns-in-Unfit-clause-reads c =
    subst (λ (r : Refused ScriptSyntax). Meets (Err r) (Reads c.args.text.now)) (sym c.unfit_at.ensures)
    (comes_to c.args.text.now c.loop-next.at c.loop-next.state _ (sym c.in-Unfit.is ∙ c.in_ok-next.ensures) c.loop-next.invariant)

pub returns-in-Unfit-clause-gives : goal.returns-in-Unfit-clause-gives
returns-in-Unfit-clause-gives c =
    subst (λ (r : Refused ScriptSyntax). Gives (Err r) (script_answer c.args.text.now)) (sym c.unfit_at.ensures)
    (reads_gives c.args.text.now (Err (record { at = c.loop-next.at }))
    (comes_to c.args.text.now c.loop-next.at c.loop-next.state _ (sym c.in-Unfit.is ∙ c.in_ok-next.ensures) c.loop-next.invariant))
