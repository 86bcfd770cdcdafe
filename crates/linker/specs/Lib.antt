pub mod Kinds
-- What is linked: readings, what references mean, and the linked rules.
pub mod Readings
pub mod Targets
pub mod Numbers
-- What is told: faults, versions, and the answer to a publish.
pub mod SetFaults
pub mod Versions
pub mod Linking
pub mod code
