-- What callers use: each part of a test is the meaning's:
pub mod Callers
-- No second answer fits:
pub mod Only
