-- Laws of reading conditions: what each reader may find, its words, and the returns of the code's readers.
pub mod Kept
pub mod Listed
pub mod Items
pub mod Callers
-- No second answer fits:
pub mod Only
