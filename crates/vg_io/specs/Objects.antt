-- What contracts see of the sources, sinks and stores over memory, and what these tell.
use Rattle.std.specs.Prelude.{ℕ, ◌-◌, Bool, ◌&&◌, ◌||◌, List, length, min, nat_lt, slice_index, ◌==◌, Some, is_some, if◌then◌else◌}
use Rattle.std.specs.List.{list_any}
use Rattle.vg_base.specs.Pairs.{find}
use Rattle.vg_io.specs.Faults.{counted, faults_after}
use Rattle.vg_io.specs.Sources.{ToldSource}
use Rattle.vg_io.specs.Sinks.{ToldSink}
use Rattle.vg_io.specs.Stores.{ToldStore, Files}

-- A source that fails at calls that were named: the bytes left, whether a read has met the end,
-- the bounds of the calls, the calls that fail, the calls so far and the faults so far.
pub record Feed : Type 0 where
  pub left : List ℕ
  pub ended : Bool
  pub pieces : List ℕ
  pub failing : List ℕ
  pub calls : ℕ
  pub faults : ℕ

abbrev pub told_by_feed : Feed → ToldSource
told_by_feed feed = record {
  left = Some feed.left;
  ended = feed.ended;
  faults = feed.faults;
  reads = feed.calls;
}

-- A source that never fails: the bytes left, and whether a read has met the end.
pub record Supply : Type 0 where
  pub left : List ℕ
  pub ended : Bool

abbrev pub told_by_supply : Supply → ToldSource
told_by_supply supply = record {
  left = Some supply.left;
  ended = supply.ended;
  faults = 0;
  reads = 0;
}

-- A sink that fails at calls that were named: the bytes written, those that were shown, the room
-- left, and the rest as in `Feed`.
pub record Drain : Type 0 where
  pub written : List ℕ
  pub shown : List ℕ
  pub room : ℕ
  pub pieces : List ℕ
  pub failing : List ℕ
  pub calls : ℕ
  pub faults : ℕ

abbrev pub told_by_drain : Drain → ToldSink
told_by_drain drain = record {
  written = Some drain.written;
  shown = Some drain.shown;
  faults = drain.faults;
}

-- A folder: its files, whether a call has listed them, the calls that fail, the calls so far and
-- the faults so far.
pub record Folder : Type 0 where
  pub files : Files
  pub listed : Bool
  pub failing : List ℕ
  pub calls : ℕ
  pub faults : ℕ

abbrev pub told_by_folder : Folder → ToldStore
told_by_folder folder = record {
  files = Some folder.files;
  is_listed = λ name. folder.listed && is_some (find name folder.files);
  faults = folder.faults;
}

-- call k is named in the list
abbrev pub is_named : List ℕ → ℕ → Bool
is_named failing k = list_any (λ x. x == k) failing

-- n bytes at most, and at most entry k; past the list its last entry counts, and an empty list sets
-- no bound
abbrev pub bounded : List ℕ → ℕ → ℕ → ℕ
bounded pieces k n =
    if nat_lt 0 (length pieces) then min n (slice_index pieces (min k (length pieces - 1))) else n

-- the next call of a folder meets a fault
abbrev pub meets_fault : Folder → Bool
meets_fault folder = is_named folder.failing folder.calls

-- the call is counted, and its fault
abbrev pub after_call : Folder → Folder
after_call folder = record {
  files = folder.files;
  listed = folder.listed;
  failing = folder.failing;
  calls = counted folder.calls;
  faults = faults_after (meets_fault folder) folder.faults;
}

-- the same, and that the files were listed
abbrev pub after_list : Bool → Folder → Folder
after_list listed folder = record (after_call folder) { listed = folder.listed || listed }
