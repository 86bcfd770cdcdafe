-- What a run of a server did to its source and with its replies.
use Rattle.std.specs.Prelude.{◌≡◌, ◌≢◌, ℕ, ◌+◌, ◌≤◌, ◌<◌, List, [], ◌++◌, length, None, Some, ◌⊎◌, IsTrue, IfSome, Bool, true, false}
use Rattle.std.specs.declared.option.Option.{Option}
use Rattle.vg_io.specs.declared.limits.TheConstants.{INPUT_LIMIT}
use Rattle.vg_io.specs.Faults.{counted, faults_after}
use Rattle.vg_io.specs.Lines.{lines_of, whole_lines_of}
use Rattle.vg_io.specs.Sources.{ToldSource}
use Rattle.server_shell.specs.declared.outcome.Status.{Status}
use Rattle.server_shell.specs.declared.outcome.Status.TheVariants as status
use Rattle.server_shell.specs.Service.{Service, Answers, AnswersBatches, batches_in, whole_batches_in}
use Rattle.server_shell.specs.Delivery.{Delivery}

-- What a run reads from and writes to: what its source tells, and where its replies go.
pub record Outside (O : Type 0) : Type 0 where
  pub source : ToldSource
  pub out : O

abbrev pub outside : {O : Type 0} → ToldSource → O → Outside O
outside source out = record { source = source; out = out }

-- a count has risen, or it stands at its type's end
abbrev pub Rose : ℕ → ℕ → Type 0
Rose before now = counted before ≤ now

-- where bytes are told: more of them were taken than an input may have
abbrev pub TakesOver : Option (List ℕ) → Option (List ℕ) → Type 0
TakesOver None after = ⊥
TakesOver (Some xs) None = ⊥
TakesOver (Some xs) (Some ys) = length ys + INPUT_LIMIT < length xs

-- where bytes are told: no more than one above that was taken
abbrev pub TakesAtMost : Option (List ℕ) → Option (List ℕ) → Type 0
TakesAtMost None after = Unit {0}
TakesAtMost (Some xs) None = ⊥
TakesAtMost (Some xs) (Some ys) = length xs ≤ length ys + INPUT_LIMIT + 1

abbrev pub is_read_fault : Status → Bool
is_read_fault status.ReadFault = true
is_read_fault status.Done = false
is_read_fault status.Usage = false
is_read_fault status.WriteFault = false
is_read_fault status.Memory = false
is_read_fault status.InputOver = false

abbrev pub is_write_fault : Status → Bool
is_write_fault status.WriteFault = true
is_write_fault status.Done = false
is_write_fault status.Usage = false
is_write_fault status.ReadFault = false
is_write_fault status.Memory = false
is_write_fault status.InputOver = false

-- the input ended, failed or was too long, and no reply was lost
abbrev pub LosesNoReply : Status → Type 0
LosesNoReply s = (s ≡ status.Done) ⊎ ((s ≡ status.ReadFault) ⊎ (s ≡ status.InputOver))

module _ {S C L R O : Type 0} (service : Service S C L R) (delivery : Delivery O R) where
  -- The input was read to its end, and the replies to all of it were taken, and shown where there
  -- are any.
  pub record ServesAll (old new : Outside O) (input : List ℕ) : Type 0 where
    pub left : new.source.left ≡ Some []
    pub replies : List R
    pub answers : Answers service input replies
    pub delivered : delivery.takes old.out new.out replies
    pub shown : replies ≢ [] → delivery.shows new.out

  -- Of what was taken the batches that their own last line ended, with its line feed, were
  -- answered, all of them, and their replies were shown where there are any.
  pub record ServesWhole (old new : Outside O) (input : List ℕ) : Type 0 where
    pub taken : List ℕ
    pub rest : List ℕ
    pub left : new.source.left ≡ Some rest
    pub cut : input ≡ taken ++ rest
    pub replies : List R
    pub answers : AnswersBatches service (whole_batches_in service (whole_lines_of taken)) replies
    pub delivered : delivery.takes old.out new.out replies
    pub shown : replies ≢ [] → delivery.shows new.out

  -- Batches at the front of what was taken; the last of all counts where the source was read to
  -- its end.
  abbrev pub AreTaken : List (List L) → List ℕ → List ℕ → Bool → Type 0
  AreTaken batches taken rest ended =
      ((more : List (List L)) × (whole_batches_in service (whole_lines_of taken) ≡ batches ++ more))
      ⊎ ((more : List (List L)) × (batches_in service (lines_of taken) ≡ batches ++ more)
      × (rest ≡ []) × IsTrue ended)

  -- A front of the replies to batches at the front of what was taken were taken.
  pub record ServesFront (old new : Outside O) (input : List ℕ) : Type 0 where
    pub taken : List ℕ
    pub rest : List ℕ
    pub left : new.source.left ≡ Some rest
    pub cut : input ≡ taken ++ rest
    pub batches : List (List L)
    pub front : AreTaken batches taken rest new.source.ended
    pub replies : List R
    pub answers : AnswersBatches service batches replies
    pub delivered : delivery.begins old.out new.out replies

  -- What a run did that ended with this status. What is said of bytes holds where the source
  -- tells them.
  pub record Ran (old new : Outside O) (ending : Status) : Type 0 where
    -- what was answered, at each ending
    pub done : ending ≡ status.Done → IfSome old.source.left (ServesAll old new)
    pub read_fault : ending ≡ status.ReadFault → IfSome old.source.left (ServesWhole old new)
    pub input_over : ending ≡ status.InputOver → IfSome old.source.left (ServesWhole old new)
    pub write_fault : ending ≡ status.WriteFault → IfSome old.source.left (ServesFront old new)
    pub memory : ending ≡ status.Memory → IfSome old.source.left (ServesFront old new)
    -- where no reply was lost, all that was taken is shown, if that was so before
    pub shown : LosesNoReply ending → delivery.shows old.out → delivery.shows new.out
    -- a fault is counted exactly where it ends the run
    pub source_faults : new.source.faults ≡ faults_after (is_read_fault ending) old.source.faults
    pub out_faults :
        delivery.faults new.out ≡ faults_after (is_write_fault ending) (delivery.faults old.out)
    -- an input past its limit is told, where replies can be delivered
    pub over : ending ≡ status.InputOver
        → IfSome old.source.left (λ _. TakesOver old.source.left new.source.left)
    pub over_only : TakesOver old.source.left new.source.left
        → (ending ≢ status.Done) × (ending ≢ status.ReadFault) × (ending ≢ status.Usage)
    -- the end of input was met at Done, and neither at a fault nor past the limit
    pub ended : ending ≡ status.Done → IsTrue new.source.ended
    pub not_ended : (ending ≡ status.ReadFault) ⊎ (ending ≡ status.InputOver)
        → IsTrue new.source.ended → IsTrue old.source.ended
    -- bounds
    pub bound : TakesAtMost old.source.left new.source.left
    pub reads : new.source.reads ≤ old.source.reads + 1073741826
