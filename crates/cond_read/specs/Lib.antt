-- What the code answers for what the meaning reads, and what its private readers answer:
pub mod Answers
pub mod Parts
