-- what the calls of a table answer and leave
pub mod Places
-- what a contract sees of a table
pub mod Rows
