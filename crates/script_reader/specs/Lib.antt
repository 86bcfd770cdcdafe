-- The language, in reading order: signs, words, strings, the lexemes that they make, the grammar over lexemes, and which answer a
-- text gets.
pub mod Letters
pub mod Signs
pub mod Roles
pub mod Strings
pub mod Lexemes
pub mod Chains
pub mod Grammar
pub mod Reading
pub mod Depth
-- What is computed.
pub mod code
pub mod Answers
pub mod Laws
