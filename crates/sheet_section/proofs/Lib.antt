-- The exit of a `?`; the tables with one row more; the end of a line; a row, piece by piece; a section, whatever its rows are:
pub mod Rows
pub mod Ends
pub mod Named
pub mod Sections
-- From one section to the next:
pub mod Callers
-- No second answer fits:
pub mod Only
