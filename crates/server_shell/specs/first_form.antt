-- The first, small form of grammar that is answered today.
pub mod Words
pub mod Forms
pub mod Commands
pub mod Hearing
pub mod State
pub mod Replies
pub mod Answers
pub mod Lines
