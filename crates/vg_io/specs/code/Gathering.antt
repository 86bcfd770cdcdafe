-- What gathering a line does with the bytes that are held and left: private contracts cite it.
use Rattle.std.specs.Prelude.{◌≡◌, ℕ, ◌+◌, ◌<◌, ◌≤◌, ◌↔◌, ◌⊎◌, Bool, IsTrue, true, false, List, [], ◌∷◌, ◌++◌, length, take, drop, if◌then◌else◌, None, Some, Ok, is_err, MatchResult}
use Rattle.std.specs.declared.option.Option.{Option}
use Rattle.std.specs.declared.result.Result.{Result}
use Rattle.std.specs.Io.KnownBytes.{Consumes, Keeps, IsAtEnd, prepend_known}
use Rattle.vg_io.specs.declared.lines.Finish.TheVariants as finish
use Rattle.vg_io.specs.declared.gathered.Gathered.{Gathered}
use Rattle.vg_io.specs.declared.gathering.Gathering.{Gathering}
use Rattle.vg_io.specs.declared.gathering.Gathering.TheVariants as gathering
use Rattle.vg_io.specs.declared.source.Failed.{Failed}
use Rattle.vg_io.specs.Faults.{faults_after}
use Rattle.vg_io.specs.Sources.{ToldSource}
use Rattle.vg_io.specs.Lines.{HasNoFeed, TakesBytes}

-- a line's bytes so far, or that they are past the limit
pub record Gathers (limit : ℕ) (front bytes : List ℕ) (long : Bool) : Type 0 where
  pub kept : long ≡ false → (bytes ≡ front) × (length front ≤ limit)
  pub past : long ≡ true → limit < length front

abbrev pub GathersIn : ℕ → List ℕ → Gathered → Type 0
GathersIn limit front line = Gathers limit front line.bytes.items line.is_long

-- whatever was gathered, this part is gathered behind it
abbrev pub AddsPart : ℕ → List ℕ → Gathered → Gathered → Type 0
AddsPart limit part old new =
    (front : List ℕ) → GathersIn limit front old → GathersIn limit (front ++ part) new

-- Bytes were gathered: all of them, which have no line feed, or those before the first line feed.
abbrev pub MovesPart : ℕ → List ℕ → Option ℕ → Gathered → Gathered → Type 0
MovesPart limit bytes None old new = HasNoFeed bytes × AddsPart limit bytes old new
MovesPart limit bytes (Some n) old new =
    (n < length bytes) × HasNoFeed (take n bytes)
    × (bytes ≡ take n bytes ++ 10 ∷ drop (n + 1) bytes)
    × AddsPart limit (take n bytes) old new

-- A line's end was moved from what is held, with its line feed; or all that is held, which has no
-- line feed.
abbrev pub MovesHeld : ℕ → Bool → List ℕ → List ℕ → Gathered → Gathered → Type 0
MovesHeld limit true held_old held_new old new =
    (part : List ℕ) × HasNoFeed part × (held_old ≡ part ++ 10 ∷ held_new)
    × AddsPart limit part old new
MovesHeld limit false held_old held_new old new =
    HasNoFeed held_old × (held_new ≡ []) × AddsPart limit held_old old new

-- A read into what is held, which was empty.
pub record Fills (old new : ToldSource) (result : Result ℕ Failed) (held : List ℕ) : Type 0 where
  pub bytes : MatchResult result
      (λ n. Consumes old.left new.left held × (n ≡ 0 → IsAtEnd new.left))
      (λ _. Keeps old.left new.left)
  pub ended : IsTrue new.ended ↔ (IsTrue old.ended ⊎ (result ≡ Ok 0))
  pub faults : new.faults ≡ faults_after (is_err result) old.faults
  pub reads : new.reads ≤ old.reads + 1

-- The bytes that are held, how many were taken in all, and the bytes that the source has left.
pub record Taking : Type 0 where
  pub held : List ℕ
  pub taken : ℕ
  pub left : Option (List ℕ)

abbrev pub taking : List ℕ → ℕ → Option (List ℕ) → Taking
taking held taken left = record { held = held; taken = taken; left = left }

abbrev pub ahead : Taking → Option (List ℕ)
ahead at = prepend_known at.held at.left

-- In the middle of a line: what was gathered is the front of what there was, and the counts agree.
pub record InLine (limit : ℕ) (old new : Taking) (line : Gathered) : Type 0 where
  pub front : List ℕ
  pub no_feed : HasNoFeed front
  pub gathers : GathersIn limit front line
  pub consumed : Consumes (ahead old) (ahead new) front
  pub counts : TakesBytes old.left new.left old.taken new.taken
  pub moved : length front + length new.held + old.taken ≡ length old.held + new.taken

-- A line ended, at its line feed, or at the end of the bytes with no line feed.
pub record EndsLine (limit : ℕ) (fed : Bool) (old new : Taking) (line : Gathered) : Type 0 where
  pub front : List ℕ
  pub no_feed : HasNoFeed front
  pub gathers : GathersIn limit front line
  pub consumed : Consumes (ahead old) (ahead new) (front ++ (if fed then 10 ∷ [] else []))
  pub at_end : fed ≡ false → (new.held ≡ []) × IsAtEnd new.left × (0 < length front)
  pub moved : length new.held + old.taken < length old.held + new.taken

-- reads that may have taken no byte
abbrev pub empty_reads : Gathering → ℕ
empty_reads gathering.Whole = 0
empty_reads gathering.Last = 1
empty_reads (gathering.Stop _) = 1

-- the end of input was met
abbrev pub MetEnd : Gathering → Type 0
MetEnd gathering.Whole = ⊥
MetEnd gathering.Last = Unit {0}
MetEnd (gathering.Stop finish.End) = Unit {0}
MetEnd (gathering.Stop finish.ReadFault) = ⊥
MetEnd (gathering.Stop finish.InputOver) = ⊥
MetEnd (gathering.Stop finish.Memory) = ⊥

-- a read failed
abbrev pub met_read_fault : Gathering → Bool
met_read_fault gathering.Whole = false
met_read_fault gathering.Last = false
met_read_fault (gathering.Stop finish.End) = false
met_read_fault (gathering.Stop finish.ReadFault) = true
met_read_fault (gathering.Stop finish.InputOver) = false
met_read_fault (gathering.Stop finish.Memory) = false
