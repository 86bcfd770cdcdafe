-- The one definition of the program.
pub mod Endings
