-- What private contracts cite: values lent or made, and literals that keep what fits.
pub mod Seen
pub mod Operators
pub mod Literals
pub mod Weights
