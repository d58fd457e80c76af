-- The end of a status's line, the line, then the stage lines and the mile lines:
pub mod Ends
pub mod Line
pub mod Statuses
-- No second answer fits:
pub mod Only
