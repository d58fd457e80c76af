-- The text of a field, and the lines of a table:
pub mod Rows
-- The whole card:
pub mod Whole
-- What callers may conclude:
pub mod Callers
-- No second answer fits:
pub mod Only
