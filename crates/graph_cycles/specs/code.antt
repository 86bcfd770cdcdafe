pub mod Reaches
pub mod Sets
pub mod Searches
pub mod Steps
