-- What the code holds: cited by private contracts alone, and not to be believed.
pub mod Kinds
pub mod Seen
