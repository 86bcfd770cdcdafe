pub mod Marks
pub mod Nodes
pub mod Above
pub mod Search
pub mod Steps
