-- The answer is the line that was gathered, or none is given.
use Rattle.std.proofs.Common.{refl, ap}
use Rattle.vg_io.specs.declared.gathering.Gathering.TheVariants as gathering
use Rattle.vg_io.proofs.Reading.{GivesLine-ends_fed, GivesLine-ends_last}
use Rattle.vg_io.proofs.Answering.{AnswersLine-told, AnswersLine-stopped, AnswersLine-viewed}
use Rattle.vg_io.proofs.lines.LineReader.next.Goals as goal

pub returns-in-Whole-clause-line : goal.returns-in-Whole-clause-line
returns-in-Whole-clause-line g c =
    let e = c.in-Whole.ensures.whole refl in
    let says = c.answer-in-Whole.ensures in
    AnswersLine-viewed _ _ _ c.self.view_is
    (AnswersLine-told _ _ e.front c.answer-in-Whole.result (GivesLine-ends_fed e _ c.if-self.false)
    (record {
      short = says.line e.front e.gathers;
      long = says.long e.front e.gathers;
      stays = says.stays;
    }))

pub returns-in-Last-clause-line : goal.returns-in-Last-clause-line
returns-in-Last-clause-line g c =
    let e = c.in-Last.ensures.last refl in
    let says = c.answer-in-Last.ensures in
    AnswersLine-viewed _ _ _ c.self.view_is
    (AnswersLine-told _ _ e.front c.answer-in-Last.result (GivesLine-ends_last e)
    (record {
      short = says.line e.front e.gathers;
      long = says.long e.front e.gathers;
      stays = says.stays;
    }))

pub returns-in-Stop-clause-line : goal.returns-in-Stop-clause-line
returns-in-Stop-clause-line g c =
    AnswersLine-viewed _ _ _ c.self.view_is
    (AnswersLine-stopped _ _ c.in-Stop.finish c.answer-in-Stop.result c.answer-in-Stop.ensures
    (λ _ e. (c.in-Stop.ensures.end (ap gathering.Stop e)).0))
