-- What the code answers:
pub mod Answers
