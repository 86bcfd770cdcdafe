pub mod Tables
pub mod Scopes
pub mod Tellings
pub mod Layings
pub mod Wholes
pub mod Late
pub mod Indexes
pub mod Publications
