-- The map of the proofs, in reading order.

-- elements of lists by their places
pub mod Lists
-- walks there and back
pub mod Cycles
-- what is left to do falls
pub mod Work
-- what each step keeps: an edge is taken off (`step`), its vertex enters or joins groups (`follow`)
pub mod TakingOff
pub mod Entering
pub mod Joining
-- the last group without edges is a component, and is shut (`step`)
pub mod Components
pub mod Shutting
-- one edge more (`lead`); the marks at the beginning and at the end (`loops`, `on_cycles`)
pub mod Ends
