-- The events of a sheet, the functions, and what callers use:
pub mod Sheets
pub mod Events
pub mod Callers
-- No second answer fits:
pub mod Only
