-- The outlook on a case's tables:
pub mod Patterns
