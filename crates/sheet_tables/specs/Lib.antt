-- The tables of a sheet above its rules: of which sheet they are, and what they stand for.
pub mod Heads
-- Its rules, with the words of their conditions:
pub mod Rules
