-- Laws of the functions:
pub mod Laws
-- What callers use: the run is what a list of nodes leads to:
pub mod Callers
-- No second answer fits:
pub mod Only
