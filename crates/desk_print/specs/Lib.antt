-- The lines that the desk program prints:
pub mod Lines
