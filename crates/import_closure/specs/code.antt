pub mod Marks
pub mod Rows
pub mod Reach
pub mod Cores
pub mod Keyed
