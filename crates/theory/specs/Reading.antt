-- How readers are built and what follows of all of them; what code that reads answers, and what its answers tell; a logic of readers.
pub mod Built
pub mod BuiltPapers
pub mod Faults
pub mod Shift
pub mod Lines
pub mod Told
pub mod Suffix
pub mod Answer
pub mod Answered
pub mod Piece
pub mod Shown
pub mod Fixed
pub mod Sections
pub mod Each
pub mod Readers
pub mod Spelling
