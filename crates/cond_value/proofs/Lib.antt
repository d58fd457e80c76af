-- Laws of the machine's functions:
pub mod Steps
-- What a word does to the stack, and what the words of a condition do:
pub mod Words
pub mod Value
-- How long the flat form is, and that whatever is read as a condition fits:
pub mod Size
pub mod Readable
-- What callers use of it: what its words say, what it answers:
pub mod Leaves
pub mod Callers
-- No second answer fits:
pub mod Only
