-- One turn of the loop: what the reader gave is taken into the open batch, and a batch that ended
-- is run.
use Rattle.std.specs.Prelude.{◌≡◌, ◌≢◌, ℕ, ◌<◌, List, [], length, ◌⊎◌, None}
use Rattle.vg_io.specs.declared.limits.TheConstants.{LINE_LIMIT}
use Rattle.vg_io.specs.declared.lines.Next.{Next}
use Rattle.vg_io.specs.declared.lines.Next.TheVariants as next
use Rattle.vg_io.specs.Reader.{IfLine, finish_of}
use Rattle.vg_io.specs.Faults.{faults_after}
use Rattle.server_shell.specs.declared.batches.BatchEnd.{BatchEnd}
use Rattle.server_shell.specs.declared.outcome.Status.{Status}
use Rattle.server_shell.specs.declared.outcome.Status.TheVariants as status
use Rattle.server_shell.specs.declared.run.Stop.{Stop}
use Rattle.server_shell.specs.declared.run.Stop.TheVariants as stop
use Rattle.server_shell.specs.Service.{Service, BetweenLines, TakesRead, RunsBatch}
use Rattle.server_shell.specs.Delivery.{Delivery}
use Rattle.server_shell.specs.Served.{is_write_fault}

-- why no line was taken of what the reader gave
abbrev pub StopsBy : Next → Stop → Type 0
StopsBy next.End s = s ≡ stop.End
StopsBy next.ReadFault s = s ≡ stop.Now status.ReadFault
StopsBy next.InputOver s = s ≡ stop.Now status.InputOver
StopsBy next.Memory s = s ≡ stop.Now status.Memory
StopsBy next.Long s = s ≡ stop.Now status.Memory
StopsBy (next.Line v) s = s ≡ stop.Now status.Memory

module _ {S C L R : Type 0} (service : Service S C L R) where
  -- What the reader gave as the line of this number was taken; of a line past the limit the bytes
  -- aren't known.
  pub record TakesNext (old new : BetweenLines S L) (number : ℕ) (given : Next) (answer : BatchEnd)
      : Type 0 where
    pub is_line : finish_of given ≡ None
    pub line : IfLine given (λ line. TakesRead service old new (service.read number line) answer)
    pub long : given ≡ next.Long → (line : List ℕ) → LINE_LIMIT < length line
        → TakesRead service old new (service.read number line) answer

-- What is kept and where replies go.
pub record Hold (S L O : Type 0) : Type 0 where
  pub kept : BetweenLines S L
  pub out : O

abbrev pub hold : {S L O : Type 0} → BetweenLines S L → O → Hold S L O
hold kept out = record { kept = kept; out = out }

module _ {S C L R O : Type 0} (service : Service S C L R) (delivery : Delivery O R) where
  -- The open batch was answered, and its replies were delivered and shown.
  pub record Finishes (old new : Hold S L O) : Type 0 where
    pub replies : List R
    pub runs : RunsBatch service old.kept new.kept replies
    pub takes : delivery.takes old.out new.out replies
    pub shows : replies ≢ [] → delivery.shows new.out
    pub keeps : delivery.shows old.out → delivery.shows new.out
    pub faults : delivery.faults new.out ≡ delivery.faults old.out

  -- Its replies weren't had, or a front of them was delivered.
  pub record Breaks (old new : Hold S L O) (ending : Status) : Type 0 where
    pub only : (ending ≡ status.WriteFault) ⊎ (ending ≡ status.Memory)
    pub front : (new.out ≡ old.out)
        ⊎ ((replies : List R) × service.answers old.kept.stands old.kept.pending replies
        × delivery.begins old.out new.out replies)
    pub faults :
        delivery.faults new.out ≡ faults_after (is_write_fault ending) (delivery.faults old.out)

  -- The end of input with nothing open, or the open batch's answer.
  pub record EndsRun (old new : Hold S L O) (ending : Status) : Type 0 where
    pub done : ending ≡ status.Done
        → ((old.kept.pending ≡ []) × (new.out ≡ old.out))
        ⊎ ((old.kept.pending ≢ []) × Finishes old new)
    pub cut : ending ≢ status.Done → (old.kept.pending ≢ []) × Breaks old new ending
