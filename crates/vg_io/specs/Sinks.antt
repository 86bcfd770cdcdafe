-- What a sink of bytes tells, and what writes and flushes of it do.
use Rattle.std.specs.Prelude.{◌≡◌, ℕ, ◌-◌, ◌<◌, List, length, take, OnOk, OnErr, is_err}
use Rattle.std.specs.declared.option.Option.{Option}
use Rattle.std.specs.declared.result.Result.{Result}
use Rattle.std.specs.Option.{option_map}
use Rattle.std.specs.Io.KnownBytes.{WriteAppends, Appends, Keeps}
use Rattle.vg_io.specs.declared.source.Failed.{Failed}
use Rattle.vg_io.specs.Faults.{faults_after}

-- The bytes that were written, and those of them that were shown, which are handed on for good,
-- where the sink tells them; and how many calls have failed.
pub record ToldSink : Type 0 where
  pub written : Option (List ℕ)
  pub shown : Option (List ℕ)
  pub faults : ℕ

-- where bytes are told, the first are the front of the others
pub record IsFrontOf (front whole : Option (List ℕ)) : Type 0 where
  pub rest : List ℕ
  pub appends : Appends front whole rest

-- no more is shown than was written
abbrev pub ShowsWritten : ToldSink → Type 0
ShowsWritten sink = IsFrontOf sink.shown sink.written

-- where bytes are told, all of them but the last n
abbrev pub all_but : ℕ → Option (List ℕ) → Option (List ℕ)
all_but n told = option_map (λ bytes. take (length bytes - n) bytes) told

-- A write of a piece with this result.
pub record Writes (old new : ToldSink) (result : Result ℕ Failed) (piece : List ℕ) : Type 0 where
  -- a front of the piece was appended, and nothing at a failure
  pub bytes : WriteAppends old.written new.written result piece
  -- what was shown stays so, and a front of what was written is shown
  pub shown : IsFrontOf old.shown new.shown
  pub within : ShowsWritten new
  pub faults : new.faults ≡ faults_after (is_err result) old.faults

-- A flush with this result.
pub record Flushes {A : Type 0} (old new : ToldSink) (result : Result A Failed) : Type 0 where
  -- nothing was appended
  pub bytes : Keeps old.written new.written
  -- all that was written is shown, and at a failure a front of it
  pub all : OnOk result (new.shown ≡ new.written)
  pub shown : IsFrontOf old.shown new.shown
  pub within : ShowsWritten new
  pub faults : new.faults ≡ faults_after (is_err result) old.faults

-- Writes of a whole piece, which end at the first failure.
pub record WritesAll {A : Type 0} (old new : ToldSink) (result : Result A Failed) (piece : List ℕ)
    : Type 0 where
  pub whole : OnOk result (Appends old.written new.written piece)
  -- a failure leaves a front of the piece, and not all of it
  pub part : OnErr result ((n : ℕ) × (n < length piece)
      × Appends old.written new.written (take n piece))
  pub shown : IsFrontOf old.shown new.shown
  -- no write is made where the piece is empty
  pub within : ShowsWritten old → ShowsWritten new
  pub faults : new.faults ≡ faults_after (is_err result) old.faults
