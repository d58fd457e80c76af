-- What the code answers for what the meaning reads, and the parts that the code goes through:
pub mod Answers
pub mod Digits
