-- The reasons: what stops a line, what is told of one status, and all of them.
pub mod Stops
pub mod Sums
pub mod Reasons
pub mod All
