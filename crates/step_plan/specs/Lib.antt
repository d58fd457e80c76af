-- The tests listed by a testing order:
pub mod Plan
-- Tests put one after another:
pub mod Listed
