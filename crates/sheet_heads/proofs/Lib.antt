-- The sections one after the other:
pub mod Whole
-- No second answer fits:
pub mod Only
