-- Lemmas for the first form, which go with it: JSON values of lines, words, cuts of texts, the
-- small form, prefixes, and one reply a line.
pub mod Reading
pub mod TextWords
pub mod Cuts
pub mod Formed
pub mod Stripped
pub mod OneReply
