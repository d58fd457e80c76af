-- The codes of marks and of values, and what they stand for:
pub mod Codes
