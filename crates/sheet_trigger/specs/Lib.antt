-- What the code answers for the start of a rule's line, and the parts that its private readers answer for:
pub mod Answers
pub mod Parts
