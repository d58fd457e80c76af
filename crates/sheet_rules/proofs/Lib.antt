-- The scan over the rules' lines, all rules with the last line, and what callers use:
pub mod Exits
pub mod Scan
pub mod Whole
pub mod Callers
-- No second answer fits:
pub mod Only
