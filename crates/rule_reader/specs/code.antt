pub mod Contexts
pub mod Escapes
pub mod Numbers
pub mod Turns
pub mod Walks
