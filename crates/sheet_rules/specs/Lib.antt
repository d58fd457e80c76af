-- What the code answers for what the meaning reads, and the parts of a line that its private readers answer for:
pub mod Answers
pub mod Parts
