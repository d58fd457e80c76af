-- Names packed into numbers, what a kept name and a table of names stand for, and what the code answers for what the meaning reads:
pub mod Packed
pub mod Names
pub mod Answers
