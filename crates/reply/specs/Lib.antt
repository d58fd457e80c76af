-- What the code returns for what the meaning says:
pub mod Answers
pub mod Faults
