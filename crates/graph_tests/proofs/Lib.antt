-- Laws of the functions:
pub mod Laws
-- What callers use of the tests of a sheet:
pub mod Callers
-- No second answer fits:
pub mod Only
