-- The returns of the steps, and what callers use:
pub mod Steps
pub mod Callers
-- No second answer fits:
pub mod Only
