-- The lines of reasons, on the tables of a sheet:
pub mod Lines
