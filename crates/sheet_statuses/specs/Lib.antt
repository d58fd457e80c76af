-- What the code answers for the end of a status's line, and stages and miles alike:
pub mod Answers
