-- What the code answers for a rule's line, and the parts of a line that its private readers answer for:
pub mod Answers
pub mod Parts
