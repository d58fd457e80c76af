-- For callers:
pub mod Callers
-- A part of a slice:
pub mod Parts
-- No second answer fits:
pub mod Only
