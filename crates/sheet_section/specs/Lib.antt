-- What the code answers for a section that the meaning reads, and where a section begins:
pub mod Answers
pub mod Held
