-- Where the lines of a text start:
pub mod Lines
