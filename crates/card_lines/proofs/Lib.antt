-- Where a function is left, what callers use, and pieces and lines as the code answers them:
pub mod Callers
pub mod Papers
pub mod Pieces
-- No second answer fits:
pub mod Only
