pub mod Graphs
-- For private contracts alone.
pub mod code
