-- Choices by their numbers:
pub mod Numbered
