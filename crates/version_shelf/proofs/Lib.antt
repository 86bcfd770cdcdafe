-- In reading order: the steps on the count word; pairs and what stands in a row; rows of notes; from facts to values.
pub mod Counted
pub mod Knowing
pub mod Noted
pub mod Values
