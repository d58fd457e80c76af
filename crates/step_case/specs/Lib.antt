-- The step on a case's tables:
pub mod Next
