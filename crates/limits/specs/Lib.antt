-- The sizes of the tables that follow from the limits:
pub mod Sizes
