pub mod Kinds
pub mod Outcomes
pub mod Operators
pub mod Parts
pub mod Changes
pub mod Evaluation
pub mod Execution
pub mod Weight
pub mod Laws
-- For private contracts alone.
pub mod code
