-- tables whose entries name earlier entries
pub mod Grow
-- what the tables stand for
pub mod Meaning
-- what always holds of the tables
pub mod Sound
-- what a call that takes a place leaves
pub mod Store
-- what is found in a chain of bindings
pub mod Lookups
-- what a step answers
pub mod Answers
-- what always holds of a machine
pub mod Safe
-- the marks of registers, in bytes
pub mod Marks
-- which register a step touches
pub mod Touching
-- what a run answers, and the marks after it
pub mod Runs
-- how values are written
pub mod Texts
-- where a machine stands
pub mod StandLine
-- a sheet against what a works has
pub mod Sheets
-- tables with nothing in them
pub mod Start
-- what a place for a machine holds, and what its calls answer and leave
pub mod Calls
-- examples
pub mod Examples
