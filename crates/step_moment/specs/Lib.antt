-- What goes with a step, on tables:
pub mod Tables
