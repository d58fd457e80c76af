-- The names in the tables, and the whole sheet:
pub mod Tables
pub mod Whole
pub mod Only
