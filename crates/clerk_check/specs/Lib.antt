-- The tables from which a blank card is written:
pub mod Blank
