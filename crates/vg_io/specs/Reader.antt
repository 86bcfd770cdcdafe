-- What a reader of lines and its source are, and what the reader's next answer does.
use Rattle.std.specs.Prelude.{◌≡◌, ◌≢◌, ℕ, ◌+◌, ◌<◌, ◌≤◌, ◌↔◌, Bool, true, false, ◌||◌, ◌⊎◌, List, [], length, if◌then◌else◌, None, Some, IsSome, IsTrue, is_some}
use Rattle.std.specs.declared.option.Option.{Option}
use Rattle.std.specs.Io.KnownBytes.{IsAtEnd, prepend_known}
use Rattle.vg_io.specs.declared.limits.TheConstants.{LINE_LIMIT, INPUT_LIMIT}
use Rattle.vg_io.specs.declared.lines.Finish.{Finish}
use Rattle.vg_io.specs.declared.lines.Finish.TheVariants as finish
use Rattle.vg_io.specs.declared.lines.Next.{Next}
use Rattle.vg_io.specs.declared.lines.Next.TheVariants as next
use Rattle.vg_io.specs.Faults.{faults_after}
use Rattle.vg_io.specs.Sources.{ToldSource}
use Rattle.vg_io.specs.Lines.{GivesLine, LeavesNoLine, TakesBytes, BeginsLong, IsKnownEmpty}

-- The bytes that were taken and not given, how many were taken in all, whether a read of this
-- reader met the end of input, and the answer that is given from now on.
pub record ReaderState : Type 0 where
  pub held : List ℕ
  pub taken : ℕ
  pub ended : Bool
  pub finished : Option Finish

-- what holds of every reader
pub record IsReaderState (limit : ℕ) (reader : ReaderState) : Type 0 where
  pub few : reader.taken ≤ limit + 1
  pub end : IsTrue reader.ended → (reader.held ≡ []) × (reader.taken ≤ limit)
  pub stopped : IsSome reader.finished
      → (IsTrue reader.ended ↔ (reader.finished ≡ Some finish.End))
  pub fault : reader.finished ≡ Some finish.ReadFault → reader.taken ≤ limit
  pub over : reader.finished ≡ Some finish.InputOver → limit < reader.taken

-- An upper count of a reader's reads: each takes a byte, but one that meets the end or fails.
abbrev pub most_reads : ReaderState → ℕ
most_reads r = r.taken + (if r.ended || is_some r.finished then 1 else 0)

-- A reader, and what the source tells that it reads.
pub record Intake : Type 0 where
  pub reader : ReaderState
  pub source : ToldSource

abbrev pub reading_from : ReaderState → ToldSource → Intake
reading_from reader source = record { reader = reader; source = source }

-- what is still to come as lines: the bytes that are held, and those that are left
abbrev pub to_come : Intake → Option (List ℕ)
to_come intake = prepend_known intake.reader.held intake.source.left

-- the answer that stays
abbrev pub finish_of : Next → Option Finish
finish_of (next.Line _) = None
finish_of next.Long = None
finish_of next.End = Some finish.End
finish_of next.ReadFault = Some finish.ReadFault
finish_of next.InputOver = Some finish.InputOver
finish_of next.Memory = Some finish.Memory

-- P of the line's bytes, at a line
abbrev pub IfLine : Next → (List ℕ → Type 0) → Type 0
IfLine (next.Line line) P = P line.items
IfLine next.Long P = Unit {0}
IfLine next.End P = Unit {0}
IfLine next.ReadFault P = Unit {0}
IfLine next.InputOver P = Unit {0}
IfLine next.Memory P = Unit {0}

abbrev pub answers_read_fault : Next → Bool
answers_read_fault (next.Line _) = false
answers_read_fault next.Long = false
answers_read_fault next.End = false
answers_read_fault next.ReadFault = true
answers_read_fault next.InputOver = false
answers_read_fault next.Memory = false

-- a reader that has met no end, and has no answer that stays
abbrev pub IsUnfinished : ReaderState → Type 0
IsUnfinished reader = (reader.finished ≡ None) × (reader.ended ≡ false)

-- this line is the next of those that are to come
abbrev pub GivesNext : Intake → Intake → List ℕ → Type 0
GivesNext old new line = GivesLine (to_come old) (to_come new) new.reader.ended line

-- A line is the first of those that are to come, within the limit or past it.
pub record AnswersLine (old new : Intake) (result : Next) : Type 0 where
  pub line : IfLine result (λ line. (length line ≤ LINE_LIMIT) × GivesNext old new line)
  pub long : result ≡ next.Long
      → (line : List ℕ) × (LINE_LIMIT < length line) × GivesNext old new line
  -- at a line past the limit no line is given, and no end
  pub long_only : IsUnfinished old.reader → BeginsLong LINE_LIMIT (to_come old)
      → IfLine result (λ _. ⊥) × (result ≢ next.End)
  -- where no byte is left no line is given
  pub none_only : old.reader.finished ≡ None → IsKnownEmpty (to_come old)
      → IsSome (finish_of result)

-- the reader met the end of input between these two
abbrev pub MeetsEnd : ReaderState → ReaderState → Type 0
MeetsEnd old new = (old.ended ≡ false) × IsTrue new.ended

-- The end of input, for the reader and for its source.
pub record AnswersEnd (old new : Intake) (result : Next) : Type 0 where
  -- the source answers it where the reader meets it, and nowhere else
  pub together : IsTrue new.source.ended
      ↔ (IsTrue old.source.ended ⊎ MeetsEnd old.reader new.reader)
  -- nothing is to come where the reader met it
  pub bytes : IsTrue new.reader.ended → IsTrue old.reader.ended ⊎ IsAtEnd (to_come new)
  -- End is answered only there, or where it was met behind the last line
  pub cause : old.reader.finished ≡ None → result ≡ next.End
      → IsAtEnd (to_come old) ⊎ IsTrue old.reader.ended
  -- of the answers that stay, it is End exactly where the reader met it
  pub answer : IsSome (finish_of result) → (IsTrue new.reader.ended ↔ (result ≡ next.End))
  pub stays : IsTrue old.reader.ended → result ≡ next.End

-- The other answers that are no line, each only from its cause.
pub record AnswersStop (old new : Intake) (result : Next) : Type 0 where
  -- a fault of the source is counted exactly where it is answered for the first time
  pub faults : new.source.faults
      ≡ (if is_some old.reader.finished then old.source.faults
      else faults_after (answers_read_fault result) old.source.faults)
  pub over : result ≡ next.InputOver → INPUT_LIMIT < new.reader.taken
  pub over_only : INPUT_LIMIT < new.reader.taken
      → (result ≢ next.End) × (result ≢ next.ReadFault)
  -- what was taken and not given has no line feed
  pub rest : old.reader.finished ≡ None
      → (result ≡ next.ReadFault) ⊎ (result ≡ next.InputOver)
      → LeavesNoLine (to_come old) new.source.left

-- Bytes and reads are counted.
pub record CountsBytes (old new : Intake) (result : Next) : Type 0 where
  pub bytes : TakesBytes old.source.left new.source.left old.reader.taken new.reader.taken
  pub taken : new.reader.taken ≤ INPUT_LIMIT + 1
  -- each line leaves fewer bytes to come
  pub falls : finish_of result ≡ None
      → length new.reader.held + old.reader.taken < length old.reader.held + new.reader.taken
  pub reads : new.source.reads + most_reads old.reader
      ≤ old.source.reads + most_reads new.reader

-- An answer that is no line stays.
pub record Stays (old new : ReaderState) (result : Next) : Type 0 where
  pub finished : new.finished ≡ finish_of result
  pub again : IsSome old.finished → (finish_of result ≡ old.finished) × (new ≡ old)
