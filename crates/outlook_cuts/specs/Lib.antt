-- The cuts of a field, from the words of conditions:
pub mod Codes
