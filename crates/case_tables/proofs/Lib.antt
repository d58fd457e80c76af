-- Tables that grow:
pub mod Rows
-- No second answer fits:
pub mod Only
