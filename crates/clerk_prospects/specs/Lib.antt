-- The lines of an outlook in names, on packed names and bits:
pub mod Lines
