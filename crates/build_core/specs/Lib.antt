pub mod Rows
pub mod Core
pub mod Next
