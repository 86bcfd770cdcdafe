-- What private contracts cite: where words lead, what a run's facts mean, and when nothing is left to be looked at.
pub mod Reads
pub mod Steps
pub mod Facts
pub mod Boards
pub mod Sound
