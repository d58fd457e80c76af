-- Arrays that begin with a list, and the tables of a sheet:
pub mod Padded
pub mod Tables
pub mod Names
-- Rules in a table:
pub mod RuleRows
-- No second answer fits:
pub mod Only
