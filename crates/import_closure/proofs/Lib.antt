-- marks and their places
pub mod MarkLemmas
-- rows by keys
pub mod RowLemmas
-- what is met, and what is reached
pub mod MetLemmas
pub mod ReachLemmas
-- by the core
pub mod CoreLemmas
-- keys of a set
pub mod KeyedLemmas
