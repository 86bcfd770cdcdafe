-- For private contracts alone.
pub mod code
