-- What was read: names, conditions and sheets, numbers, cards and event lines, and a case that was taken.
pub mod Names
pub mod Conditions
pub mod Formed
pub mod Sheets
pub mod Entries
pub mod Counts
pub mod Cards
pub mod Case
