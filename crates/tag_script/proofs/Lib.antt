-- numbers: past 64 bits is past the limits; decimal texts
mod Bounds
mod Decimals
-- `text_of`, `is_length`: words whose bytes are their characters
mod Words
-- assignments: a member taken out and put again, an item taken out and put again
mod Putting
mod Items
mod Walks
-- weights: a variable exchanged for another
mod Weights
-- literals: a list's and a record's
mod ListLiterals
mod Puts
mod RecordLiterals
mod Records
-- `runs_keep`: what is tested is within the limits; what each change keeps, a run keeps
pub mod WithinLimits
pub mod RunSteps
-- `looking_changes_nothing`
pub mod Looking
