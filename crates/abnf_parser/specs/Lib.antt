pub mod Expansions
pub mod Declarations
pub mod Documents
pub mod Roles
pub mod Texts
-- For private contracts alone.
pub mod code
