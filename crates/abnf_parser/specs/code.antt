pub mod Bodies
pub mod Readers
