-- The map: modules in reading order, each with what it carries.

-- lists of choices, and what a trail says after one choice more (`Trail`)
pub mod Forks
-- the first tree and the next ones, among all (`first`, `firsts`)
pub mod Trees
-- a step of a walk: a job is replaced by jobs that make the same
pub mod Expansions
-- steps at nodes, by kind
pub mod NodeSteps
-- which choice a job begins with
pub mod Choosing
pub mod GarbageSteps
-- turns of a repeat
pub mod TurnWays
pub mod TurnSteps
pub mod SequenceSteps
-- a walk stays right
pub mod WalkSteps
-- sets of places
pub mod WaySets
pub mod Lining
-- the public calls
pub mod Outcomes
pub mod Deciding
pub mod Going
