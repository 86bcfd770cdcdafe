-- A core state, its events, and what holds between any two of them.
use Rattle.std.specs.Prelude.{◌≡◌, ◌≢◌, ℕ, ◌+◌, ◌<◌, ◌≤◌, ◌↔◌, ◌⊎◌, List, [], ◌∷◌, length, slice_index_or, slice_set}
use Rattle.std.specs.List.{Contains}
use Rattle.vg_base.specs.declared.numbers.DocIx.{DocIx}
use Rattle.vg_base.specs.declared.numbers.LoaderNo.{LoaderNo}
use Rattle.build_core.specs.declared.event.DocState.{DocState}
use Rattle.build_core.specs.declared.event.DocState.TheVariants.{Unseen, Wanted, Held, Done}
use Rattle.build_core.specs.declared.event.Event.{Event}
use Rattle.build_core.specs.declared.event.Event.TheVariants.{Want, Claim, Finish}
use Rattle.build_core.specs.Rows.{Reached, ix}

pub record Core : Type 0 where
  pub docs : List DocState
  pub loaders : ℕ

-- past the end a document is unseen
abbrev pub at : List DocState → ℕ → DocState
at docs d = slice_index_or docs d Unseen

-- some loader has read the document
abbrev pub IsDone : List DocState → ℕ → Type 0
IsDone docs d = (k : LoaderNo) × (at docs d ≡ Done k)

-- none is wanted or held
abbrev pub Finished : List DocState → Type 0
Finished docs = (d : ℕ) → (at docs d ≡ Unseen) ⊎ IsDone docs d

pub record Sound (imp : ℕ → ℕ → Type 0) (entries : List DocIx) (docs : List DocState) : Type 0 where
  pub holds_one : (k : LoaderNo) (d e : ℕ) → at docs d ≡ Held k → at docs e ≡ Held k → d ≡ e
  pub reached : (d : ℕ) → at docs d ≢ Unseen → Reached imp entries d
  pub entries_seen : (d : ℕ) → Contains entries (ix d) → at docs d ≢ Unseen
  pub imports_seen : (k : LoaderNo) (d e : ℕ) → at docs d ≡ Done k → imp d e → at docs e ≢ Unseen

-- what was sound still is, whichever the entries are
abbrev pub KeepsSound : (ℕ → ℕ → Type 0) → List DocState → List DocState → Type 0
KeepsSound imp before now =
    (entries : List DocIx) → Sound imp entries before → Sound imp entries now

-- the loader holds a document that imports y
abbrev pub HoldsImporter : (ℕ → ℕ → Type 0) → List DocState → LoaderNo → ℕ → Type 0
HoldsImporter imp docs k y = (x : ℕ) × (at docs x ≡ Held k) × imp x y

abbrev pub HoldsNone : List DocState → LoaderNo → Type 0
HoldsNone docs k = (d : ℕ) → at docs d ≢ Held k

abbrev pub IsLoader : ℕ → LoaderNo → Type 0
IsLoader loaders k = (1 ≤ k.0) × (k.0 ≤ loaders)

-- what the state itself asks of an event, whatever the imports are
abbrev pub AllowedByState : Core → Event → Type 0
AllowedByState c (Want k d) =
    IsLoader c.loaders k × (d.0 < length c.docs) × (at c.docs d.0 ≡ Unseen)
AllowedByState c (Claim k d) =
    IsLoader c.loaders k × (d.0 < length c.docs) × (at c.docs d.0 ≡ Wanted) × HoldsNone c.docs k
AllowedByState c (Finish k d) =
    IsLoader c.loaders k × (d.0 < length c.docs) × (at c.docs d.0 ≡ Held k)

-- what the imports ask of it
abbrev pub AllowedByImports : (ℕ → ℕ → Type 0) → Core → Event → Type 0
AllowedByImports imp c (Want k d) = HoldsImporter imp c.docs k d.0
AllowedByImports imp c (Claim k d) = Unit {0}
AllowedByImports imp c (Finish k d) = (y : ℕ) → imp d.0 y → at c.docs y ≢ Unseen

-- the event may come
abbrev pub Enabled : (ℕ → ℕ → Type 0) → Core → Event → Type 0
Enabled imp c e = AllowedByState c e × AllowedByImports imp c e

abbrev pub moved : List DocState → Event → List DocState
moved docs (Want k d) = slice_set docs d.0 Wanted
moved docs (Claim k d) = slice_set docs d.0 (Held k)
moved docs (Finish k d) = slice_set docs d.0 (Done k)

abbrev pub after : Core → Event → Core
after c e = record c { docs = moved c.docs e }

-- how many events a document has had
abbrev pub rank : DocState → ℕ
rank Unseen = 0
rank Wanted = 1
rank (Held k) = 2
rank (Done k) = 3

-- how many events all documents have had
abbrev pub spent : List DocState → ℕ
spent [] = 0
spent (s ∷ ss) = rank s + spent ss

-- The opening state of so many documents: the entries are wanted, and all else is unseen.
pub record Opening (size : ℕ) (entries : List DocIx) (docs : List DocState) : Type 0 where
  pub sized : length docs ≡ size
  pub entries_wanted : (d : ℕ) → Contains entries (ix d) → at docs d ≡ Wanted
  pub others_unseen : (d : ℕ) → (at docs d ≡ Unseen) ⊎ ((at docs d ≡ Wanted) × Contains entries (ix d))

-- one that is held or done is so by a loader that is there
abbrev pub IsByLoader : ℕ → DocState → Type 0
IsByLoader loaders Unseen = Unit {0}
IsByLoader loaders Wanted = Unit {0}
IsByLoader loaders (Held k) = IsLoader loaders k
IsByLoader loaders (Done k) = IsLoader loaders k

-- What every state keeps: at most 64 documents, each that is held or done so by a loader that is there.
pub record IsStanding (loaders : ℕ) (docs : List DocState) : Type 0 where
  pub few : length docs ≤ 64
  pub held : (d : ℕ) (k : LoaderNo) → at docs d ≡ Held k → IsLoader loaders k
  pub done : (d : ℕ) (k : LoaderNo) → at docs d ≡ Done k → IsLoader loaders k

-- each event is enabled where it comes
abbrev pub IsRun : (ℕ → ℕ → Type 0) → Core → List Event → Type 0
IsRun imp c [] = Unit {0}
IsRun imp c (e ∷ es) = Enabled imp c e × IsRun imp (after c e) es

abbrev pub after_all : Core → List Event → Core
after_all c [] = c
after_all c (e ∷ es) = after_all (after c e) es

-- the documents of the Claims, in order
abbrev pub claims : List Event → List ℕ
claims [] = []
claims (Claim k d ∷ es) = d.0 ∷ claims es
claims (Want k d ∷ es) = claims es
claims (Finish k d ∷ es) = claims es

-- a run of so many events leads from the one state to the other
pub record RunsTo (imp : ℕ → ℕ → Type 0) (before : Core) (count : ℕ) (now : Core) : Type 0 where
  pub events : List Event
  pub counted : length events ≡ count
  pub ran : IsRun imp before events
  pub moved : now ≡ after_all before events

-- the documents that are done are the closure
abbrev pub DoneIsClosure : (ℕ → ℕ → Type 0) → List DocIx → List DocState → Type 0
DoneIsClosure imp entries docs = (d : ℕ) → IsDone docs d ↔ Reached imp entries d
