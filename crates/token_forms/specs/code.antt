-- What the code finds: cited by private contracts alone, and not to be believed.
pub mod Taken
