-- The end of a rule's line, the whole line, and what callers use:
pub mod Endings
pub mod Rows
pub mod Callers
-- No second answer fits:
pub mod Only
