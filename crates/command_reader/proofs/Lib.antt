-- names of members: each is one of a row's
pub mod Named
-- from the clauses of the JSON reader, and of the table's rows, to the answer (`read_command`, clause answer)
pub mod Reading
-- the strings of a JSON value that a program holds are of UTF-8
pub mod Utf8
-- JSON text without floats is read back, and is UTF-8
pub mod Printing
-- objects of fields: what is found in one, and that its text is read back
pub mod Fields
-- the values that commands hold, each read back
pub mod Values
-- each command of the table keeps its bounds (`read_command`, clause called)
pub mod Kept
-- what is written for a command is read as this command (`commands_are_read_back`)
pub mod ReadBack
