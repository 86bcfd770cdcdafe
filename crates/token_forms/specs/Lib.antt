pub mod Words
pub mod Keys
pub mod Counts
-- for private contracts alone
pub mod code
