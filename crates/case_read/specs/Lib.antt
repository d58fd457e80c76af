-- What the code answers for the three papers:
pub mod Answers
