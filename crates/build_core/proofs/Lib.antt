pub mod Keeps
pub mod Ends
pub mod Opens
pub mod Once
pub mod Schedule
