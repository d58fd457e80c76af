-- The tables of card and event line, and what was read as tables hold it:
pub mod Cards
pub mod Rows
