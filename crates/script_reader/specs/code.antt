-- The machine and the cutter as the code has them: cited by private contracts, by the law that the machine reads the grammar, and by
-- `script_answer`, which the law of answers ties to the grammar. Nothing here has to be believed.
pub mod Decoding
pub mod Front
pub mod Marks
pub mod Expressions
pub mod Statements
pub mod Advances
