pub mod Members
pub mod Table
pub mod Answer
pub mod Facts
pub mod Written
