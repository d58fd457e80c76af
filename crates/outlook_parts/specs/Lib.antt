-- The values to be tried in each field:
pub mod Tried
