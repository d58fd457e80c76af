-- The fields that an event carries, its line, then all lines:
pub mod Pieces
pub mod Line
pub mod Events
-- No second answer fits:
pub mod Only
