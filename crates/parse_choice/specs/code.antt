-- What private contracts cite: where a rest can be completed, what is planned, and what a walk has chosen.
pub mod Ways
pub mod Trails
pub mod Plans
pub mod Walks
pub mod Steps
