-- What the code finds and counts: cited by private contracts alone, and not to be believed.
pub mod Front
pub mod Tally
pub mod Repeats
pub mod Insides
