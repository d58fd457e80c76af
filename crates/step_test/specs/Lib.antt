-- A test on marks:
pub mod Met
-- and what it reads of a moment, and tells:
pub mod Codes
