-- what the numbers of types stand for
pub mod TypeTable
-- whether two types are the same
pub mod Comparing
-- the context that a scope list stands for
pub mod Scopes
-- what judging a term answers and leaves
pub mod Judging
-- what counts, worlds and registers of a term stand for
pub mod Lookups
-- what an accepted program carries
pub mod Typed
-- what checking answers and leaves
pub mod Accepting
-- what judging a whole program answers
pub mod Concluding
-- how a type is written
pub mod TypeLine
-- what a place for an accepted program holds
pub mod Holding
-- what the sheet of an accepted program is
pub mod Sheeting
