pub mod Kept
pub mod Laws
pub mod Line
pub mod Names
pub mod Rows
pub mod code
