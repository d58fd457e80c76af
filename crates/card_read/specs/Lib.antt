-- What the code answers for what the meaning reads, and what its parts do:
pub mod Answers
pub mod Parts
