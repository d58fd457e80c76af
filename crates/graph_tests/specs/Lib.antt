-- The tests as a table, read off the tables of a sheet:
pub mod Table
-- and the rows of the meaning's tests:
pub mod Answers
