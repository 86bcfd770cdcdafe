-- Each way out of the loop, and each turn of it, by the lemmas of `Progress`, `Sources` and
-- `Writing`.
use Rattle.std.proofs.Common.{◌≡◌, ℕ, ◌+◌, ◌<◌, ◌≤◌, [], length, None, false, Err, refl, ap, ◌∙◌, subst, arith}
use Rattle.vg_io.specs.Reader.{ReaderState, reading_from}
use Rattle.vg_io.specs.declared.lines.Next.TheVariants as next
use Rattle.server_shell.specs.code.Turning.{EndsRun, hold}
use Rattle.server_shell.proofs.Progress.{Moment, line_more, line_ends, batch_run, progress_none}
use Rattle.server_shell.proofs.Sources.{ReaderAnswered, steady_none, steady_next, stops_end, stops_now, in_form}
use Rattle.server_shell.proofs.Writing.{takes_one, ran_nothing, ran_stop, ran_end, ran_cut}
use Rattle.server_shell.proofs.run.run_batches.Goals as goal
use Rattle.server_shell.proofs.run.run_batches.Goals.{After-take_next}
use Rattle.server_shell.proofs.run.run_batches.Given.{Over}

-- the moment before the reader is asked, and the one after it has answered
abbrev before : (g : Over) → After-take_next g
    → Moment g.row.B-State.Denot g.row.B-Item.Denot g.row.O.Denot
before g c = record {
  intake = reading_from c.loop-number.reader (g.S.Source.told c.loop-number.source);
  hold = hold (g.B.Batches.kept c.loop-number.batches) c.loop-number.out;
  number = c.loop-number.number;
}

abbrev behind : (g : Over) → After-take_next g
    → Moment g.row.B-State.Denot g.row.B-Item.Denot g.row.O.Denot
behind g c = record {
  intake = reading_from c.next-next.new.self (g.S.Source.told c.next-next.new.source);
  hold = hold (g.B.Batches.kept c.take_next.new.batches) c.loop-number.out;
  number = c.loop-number.number + 1;
}

answered : (g : Over) (c : After-take_next g)
    → ReaderAnswered (reading_from c.loop-number.reader (g.S.Source.told c.loop-number.source))
    (reading_from c.next-next.new.self (g.S.Source.told c.next-next.new.source)) c.next-next.result
answered g c = record {
  line = c.next-next.ensures.line;
  end = c.next-next.ensures.end;
  stop = c.next-next.ensures.stop;
  counts = c.next-next.ensures.counts;
  stays = c.next-next.ensures.stays;
}

-- one more line: fewer bytes are to come, and the number of lines is bounded by the bytes
module _ (number held taken : ℕ) where
  counts_more : (held' taken' : ℕ) → number + held ≤ taken + 1 → held' + taken < held + taken'
      → (number + 1) + held' ≤ taken' + 1
  counts_more held' taken' i f = omega (arith, i, f)

pub returns-in-Err-clause-ran : goal.returns-in-Err-clause-ran
returns-in-Err-clause-ran g c =
    let service = g.B.Batches.service in
    let delivery = g.D.Delivers.delivery in
    let lawful = g.met.D.Delivers.lawful in
    let now : Moment g.row.B-State.Denot g.row.B-Item.Denot g.row.O.Denot = record {
      intake = reading_from (record { held = []; taken = 0; ended = false; finished = None })
          (g.S.Source.told c.args.source.now);
      hold = hold (g.B.Batches.kept c.args.batches.now) c.args.out.now;
      number = 1;
    } in
    ran_nothing service delivery lawful
    (progress_none service delivery now lawful refl c.requires.start refl)
    (record { faults = refl; shown = λ h. h }) (steady_none now.intake refl)

pub loop-number-init : goal.loop-number-init
loop-number-init g c =
    let service = g.B.Batches.service in
    let delivery = g.D.Delivers.delivery in
    let lawful = g.met.D.Delivers.lawful in
    let now : Moment g.row.B-State.Denot g.row.B-Item.Denot g.row.O.Denot = record {
      intake = reading_from c.in-Ok.reader (g.S.Source.told c.args.source.now);
      hold = hold (g.B.Batches.kept c.args.batches.now) c.args.out.now;
      number = 1;
    } in record {
      progress = progress_none service delivery now lawful c.in-Ok.ensures c.requires.start refl;
      steady = steady_none now.intake c.in-Ok.ensures;
      held = record { faults = refl; shown = λ h. h };
      counts = omega (
        arith,
        ap (λ (r : ReaderState). r.taken) c.in-Ok.ensures,
        ap (λ (r : ReaderState). length r.held) c.in-Ok.ensures,
      );
      last = omega (arith, c.requires.none);
    }

pub loop-number-preserved-in-Ok-Later : goal.loop-number-preserved-in-Ok-Later
loop-number-preserved-in-Ok-Later g c =
    let service = g.B.Batches.service in
    let delivery = g.D.Delivers.delivery in
    let d = (goal.at.loop-number-preserved-in-Ok-Later g c).After-take_next in
    let i = c.loop-number.invariant in
    let t = rw c.in-Ok-Later.field-0-is at c.in-Ok-Later.ensures.takes in record {
      progress = line_more service delivery (behind g d) i.progress
          (takes_one service delivery c.next-next.result (answered g d) t refl refl);
      steady = steady_next (behind g d).intake i.steady (answered g d) t.is_line;
      held = i.held;
      counts = counts_more c.loop-number.number
          (length c.loop-number.reader.held) c.loop-number.reader.taken
          (length c.next-next.new.self.held) c.next-next.new.self.taken i.counts
          (c.next-next.ensures.counts.falls t.is_line);
      last = omega (arith, c.in-Ok-Later.ensures.last);
    }

pub loop-number-preserved : goal.loop-number-preserved
loop-number-preserved g c =
    let service = g.B.Batches.service in
    let delivery = g.D.Delivers.delivery in
    let lawful = g.met.D.Delivers.lawful in
    let d = (goal.at.loop-number-preserved g c).After-take_next in
    let i = c.loop-number.invariant in
    let t = rw c.in-Ok-Here.field-0-is at c.in-Ok-Here.ensures.takes in
    let f = c.in-Ok-run_batch.ensures.whole in record {
      progress =
          batch_run service delivery
          (hold (g.B.Batches.kept c.run_batch.new.batches) c.run_batch.new.out) lawful
          (line_ends service delivery (behind g d) i.progress
          (takes_one service delivery c.next-next.result (answered g d) t refl refl)) f;
      steady = steady_next (behind g d).intake i.steady (answered g d) t.is_line;
      held = record { faults = f.faults ∙ i.held.faults; shown = λ h. f.keeps (i.held.shown h) };
      counts = counts_more c.loop-number.number
          (length c.loop-number.reader.held) c.loop-number.reader.taken
          (length c.next-next.new.self.held) c.next-next.new.self.taken i.counts
          (c.next-next.ensures.counts.falls t.is_line);
      last = omega (arith, c.in-Ok-Here.ensures.last, c.in-Ok-run_batch.ensures.last);
    }

pub returns-in-Err-run_batch-clause-ran : goal.returns-in-Err-run_batch-clause-ran
returns-in-Err-run_batch-clause-ran g c =
    let service = g.B.Batches.service in
    let delivery = g.D.Delivers.delivery in
    let lawful = g.met.D.Delivers.lawful in
    let d = (goal.at.returns-in-Err-run_batch-clause-ran g c).After-take_next in
    let i = c.loop-number.invariant in
    let t = rw c.in-Ok-Here.field-0-is at c.in-Ok-Here.ensures.takes in
    ran_cut service delivery lawful
    (hold (g.B.Batches.kept c.run_batch.new.batches) c.run_batch.new.out)
    c.in-Err-run_batch.stop
    (line_ends service delivery (behind g d) i.progress
    (takes_one service delivery c.next-next.result (answered g d) t refl refl))
    i.held (steady_next (behind g d).intake i.steady (answered g d) t.is_line)
    c.in-Err-run_batch.ensures.cut

pub returns-in-Err-End-clause-ran : goal.returns-in-Err-End-clause-ran
returns-in-Err-End-clause-ran g c =
    let service = g.B.Batches.service in
    let delivery = g.D.Delivers.delivery in
    let lawful = g.met.D.Delivers.lawful in
    let d = (goal.at.returns-in-Err-End-clause-ran g c).After-take_next in
    let i = c.loop-number.invariant in
    let after = hold (g.B.Batches.kept c.run_last.new.batches) c.run_last.new.out in
    let is : c.next-next.result ≡ next.End = stops_end c.next-next.result
    (rw c.in-Err-End.field-0-is at c.in-Err-End.ensures.stops) in
    ran_end service delivery lawful i.progress i.held i.steady after c.run_last.result
    (behind g d).intake
    (subst (λ b. EndsRun service delivery
    (hold (g.B.Batches.kept b) c.loop-number.out) after c.run_last.result)
    (c.in-Err-End.ensures.idle (ap Err c.in-Err-End.field-0-is)) c.run_last.ensures)
    (subst (λ n. ReaderAnswered (before g d).intake (behind g d).intake n) is (answered g d))

pub returns-in-Err-Now : goal.returns-in-Err-Now
returns-in-Err-Now g c =
    let service = g.B.Batches.service in
    let delivery = g.D.Delivers.delivery in
    let lawful = g.met.D.Delivers.lawful in
    let d = (goal.at.returns-in-Err-Now g c).After-take_next in
    let i = c.loop-number.invariant in
    let stops = stops_now c.next-next.result c.in-Err-Now.ending
    (rw c.in-Err-Now.field-0-is at c.in-Err-Now.ensures.stops) in record {
      ran = ran_stop service delivery lawful i.progress i.held i.steady c.in-Err-Now.ending
          (behind g d).intake (answered g d) stops;
      in_form = in_form c.next-next.result c.in-Err-Now.ending stops.0;
    }
