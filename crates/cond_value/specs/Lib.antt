-- The flat form of conditions, the machine that values it, and the conditions that it values rightly:
pub mod Flat
pub mod Machine
pub mod Fits
