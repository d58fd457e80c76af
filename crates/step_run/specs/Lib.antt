-- The step on tables and marks:
pub mod Run
