-- What private contracts cite of the code.
pub mod Gathering
