-- What the code answers for a leaf that the meaning reads:
pub mod Answers
