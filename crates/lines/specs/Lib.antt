-- the number and the named values of each refusal
pub mod Refusals
-- what writing a text into a buffer answers and leaves
pub mod Writing
-- what a pen does with a buffer that it is handed
pub mod Pens
