pub mod Split
pub mod Parts
pub mod Allowed
pub mod Dots
pub mod Resolution
pub mod Faults
-- for private contracts alone
pub mod code
