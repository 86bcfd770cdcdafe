-- The map, in reading order. `ReplyLines` (lines of replies). Of the loop: `Divisions` (lists in
-- batches), `Runs` (one more batch), `LinesSoFar` (bytes and lines), `Progress` (the loop's
-- invariant), `Ending` (what it comes to), `Counts` (bytes taken), `Sources` (what is promised of
-- the source), `Writing` (all that a run did).
pub mod ReplyLines
pub mod Divisions
pub mod Runs
pub mod LinesSoFar
pub mod Progress
pub mod Ending
pub mod Counts
pub mod Sources
pub mod Writing
pub mod first_form_lemmas
