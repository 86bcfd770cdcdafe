pub mod Classes
pub mod Codes
pub mod Forms
pub mod Lexemes
pub mod Faults
pub mod Header
pub mod Lexing
pub mod Repeats
pub mod Insides
-- For private contracts alone.
pub mod code
