-- fields put one after another stand in order (`reply_value`)
pub mod InOrder
-- the JSON of a kept reply has whole numbers (`reply_text`), and is shallow
pub mod Whole
pub mod Shallow
-- no byte of compact JSON is a line feed (`lines_end_once`)
pub mod OneFeed
-- `lines_tell_replies`: kinds by their names; values, faults and results by their JSON; a reply by its members; all together
pub mod Names
pub mod Elements
pub mod Back
pub mod Tells
