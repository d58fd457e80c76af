-- What callers use:
pub mod Callers
