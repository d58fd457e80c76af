-- What is told of a sheet alone, on its tables:
pub mod Lines
