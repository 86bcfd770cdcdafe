pub mod Places
pub mod Chart
-- For private contracts alone.
pub mod code
