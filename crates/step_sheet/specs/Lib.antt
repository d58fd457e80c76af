-- What the code answers for a sheet as a paper:
pub mod Answers
