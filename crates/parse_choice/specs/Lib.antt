pub mod Choice
-- For private contracts alone.
pub mod code
