-- The schedule of one loader.
use Rattle.std.specs.Prelude.{ℕ, Bool, true, false, List, Option, None, Some, position, find, option_map}
use Rattle.vg_base.specs.declared.numbers.DocIx.{DocIx}
use Rattle.vg_base.specs.declared.numbers.LoaderNo.{LoaderNo}
use Rattle.build_core.specs.declared.event.DocState.{DocState}
use Rattle.build_core.specs.declared.event.DocState.TheVariants.{Unseen, Wanted, Held, Done}
use Rattle.build_core.specs.declared.event.Event.{Event}
use Rattle.build_core.specs.declared.event.Event.TheVariants.{Want, Claim, Finish}
use Rattle.build_core.specs.Rows.{ix, row}
use Rattle.build_core.specs.Core.{at}

abbrev pub is_held : DocState → Bool
is_held Unseen = false
is_held Wanted = false
is_held (Held k) = true
is_held (Done k) = false

abbrev pub is_wanted : DocState → Bool
is_wanted Unseen = false
is_wanted Wanted = true
is_wanted (Held k) = false
is_wanted (Done k) = false

abbrev pub is_unseen : DocState → Bool
is_unseen Unseen = true
is_unseen Wanted = false
is_unseen (Held k) = false
is_unseen (Done k) = false

abbrev pub is_unseen_in : List DocState → DocIx → Bool
is_unseen_in docs d = is_unseen (at docs d.0)

-- the loader of a document that is held or done
abbrev pub holder : DocState → LoaderNo
holder Unseen = record { 0 = 0 }
holder Wanted = record { 0 = 0 }
holder (Held k) = k
holder (Done k) = k

-- the Want of the held document's first unseen import, else its Finish
abbrev pub step_by : LoaderNo → ℕ → Option DocIx → Event
step_by k d (Some y) = Want k y
step_by k d None = Finish k (ix d)

abbrev pub step_of : List (List DocIx) → List DocState → ℕ → Event
step_of rows docs d = step_by (holder (at docs d)) d (find (is_unseen_in docs) (row rows d))

-- the step of the least held document; where none is held, loader 1's Claim of the least wanted one
abbrev pub next_by : List (List DocIx) → List DocState → Option ℕ → Option Event
next_by rows docs (Some d) = Some (step_of rows docs d)
next_by rows docs None = option_map (λ d. Claim (record { 0 = 1 }) (ix d)) (position is_wanted docs)

abbrev pub next_of : List (List DocIx) → List DocState → Option Event
next_of rows docs = next_by rows docs (position is_held docs)
