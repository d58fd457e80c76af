-- Laws of the functions, in return form:
pub mod Laws
-- What callers use of it:
pub mod Callers
-- That no second answer fits the contracts:
pub mod Only
