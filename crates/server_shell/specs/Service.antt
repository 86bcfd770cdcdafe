-- A server over batches of lines: how it reads a line, where a batch ends, and how a batch is
-- answered.
use Rattle.std.specs.Prelude.{◌≡◌, ℕ, ◌+◌, ◌↔◌, IsTrue, List, [], ◌∷◌, ◌++◌, None, Some, option_to_list}
use Rattle.std.specs.declared.option.Option.{Option}
use Rattle.vg_io.specs.Lines.{lines_of}
use Rattle.server_shell.specs.declared.batches.BatchEnd.{BatchEnd}
use Rattle.server_shell.specs.declared.batches.BatchEnd.TheVariants as batch_end
use Rattle.server_shell.specs.Runs.{Runs}
use Rattle.server_shell.specs.Batching.{Division, batches_of, whole_batches_of, count_behind, IsOpen}

-- S is what stands between batches, C a count within a batch, L an item that is read of a line, R a
-- reply.
pub record Service (S C L R : Type 0) : Type 1 where
  -- what stands at the beginning
  pub start : S
  -- the item that is read of the line of this number; none of a blank line
  pub read : ℕ → List ℕ → Option L
  pub division : Division C L
  -- the replies that a batch may have, by what stands before it
  pub answers : S → List L → List R → Type 0
  -- what stands after a batch with these replies
  pub after : S → List L → List R → S

-- What a server keeps between two lines: what stands, and the items of the open batch.
pub record BetweenLines (S L : Type 0) : Type 0 where
  pub stands : S
  pub pending : List L

module _ {S C L R : Type 0} (service : Service S C L R) where
  -- the items of lines that are numbered from number on
  abbrev pub read_lines : ℕ → List (List ℕ) → List L
  read_lines number [] = []
  read_lines number (line ∷ lines) =
      option_to_list (service.read number line) ++ read_lines (number + 1) lines

  -- the batches of an input's lines; the last one needs no end of its own
  abbrev pub batches_in : List (List ℕ) → List (List L)
  batches_in lines = batches_of service.division service.division.first (read_lines 1 lines)

  -- the batches that their own last line ended
  abbrev pub whole_batches_in : List (List ℕ) → List (List L)
  whole_batches_in lines =
      whole_batches_of service.division service.division.first (read_lines 1 lines)

  -- batches that are answered from the start, one after another
  abbrev pub AnswersBatches : List (List L) → List R → Type 0
  AnswersBatches batches replies =
      (t : S) × Runs service.answers service.after service.start batches replies t

  -- The replies are those that the input's batches may have.
  abbrev pub Answers : List ℕ → List R → Type 0
  Answers input replies = AnswersBatches (batches_in (lines_of input)) replies

  -- no item of the open batch has ended it
  abbrev pub HasOpenBatch : BetweenLines S L → Type 0
  HasOpenBatch kept = IsOpen service.division service.division.first kept.pending

  -- what was read of a line ends the open batch; nothing doesn't
  abbrev pub EndsBatch : BetweenLines S L → Option L → Type 0
  EndsBatch kept None = ⊥
  EndsBatch kept (Some item) =
      IsTrue (service.division.ends
      (count_behind service.division service.division.first kept.pending) item)

  -- What was read of a line was taken into the open batch, which ended with it or goes on.
  pub record TakesRead (old new : BetweenLines S L) (read : Option L) (answer : BatchEnd)
      : Type 0 where
    pub kept :
        new ≡ record { stands = old.stands; pending = old.pending ++ option_to_list read }
    pub here : (answer ≡ batch_end.Here) ↔ EndsBatch old read

  -- The open batch was answered, and an empty one begins.
  pub record RunsBatch (old new : BetweenLines S L) (replies : List R) : Type 0 where
    pub answers : service.answers old.stands old.pending replies
    pub kept : new ≡ record { stands = service.after old.stands old.pending replies; pending = [] }
