-- `measures`: what the levels of a record give, the step over a map, and parts one after another
pub mod Levels
pub mod Deep
pub mod Together
-- `is_true`, `item`
pub mod Texts
pub mod Numbers
-- `texts_tell_values`: what is kept, members by their keys, values by their JSON, JSON by its text
pub mod Kept
pub mod Members
pub mod SameJson
pub mod Whole
pub mod Shown
