-- The pieces of a rule's line up to ` if `:
pub mod Pieces
-- No second answer fits:
pub mod Only
