-- The examples of document 01, those of request T-01, those of the clerk's other words, and a large sheet:
pub mod Examples
pub mod Whys
pub mod Clerks
pub mod Large
