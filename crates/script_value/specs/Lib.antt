pub mod Json
pub mod Kept
pub mod Laws
pub mod Limits
pub mod Measures
pub mod Parts
pub mod Truth
