-- The model, then the fields:
pub mod Model
pub mod Fields
-- No second answer fits:
pub mod Only
