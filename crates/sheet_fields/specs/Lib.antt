-- What the code answers for the lines of the model and of a field:
pub mod Answers
