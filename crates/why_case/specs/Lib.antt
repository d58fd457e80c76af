-- The reasons on a case's tables:
pub mod Reasons
