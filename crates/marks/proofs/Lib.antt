-- What is read of marks and of codes of values:
pub mod Callers
-- No second answer fits:
pub mod Only
