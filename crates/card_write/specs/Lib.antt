-- The next card as a text, from the tables and the texts of card and event line:
pub mod Texts
pub mod Answers
-- The lines of a table of names:
pub mod Lines
