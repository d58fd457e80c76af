-- What the code answers for the steps along a condition:
pub mod Answers
