-- The functions, and what callers use:
pub mod Lines
pub mod Fields
pub mod Marks
pub mod Cards
pub mod Callers
-- No second answer fits:
pub mod Only
