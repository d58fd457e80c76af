-- Masks as sets of nodes, and what the code answers:
pub mod Masks
pub mod Answers
