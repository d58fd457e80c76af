-- Laws of the functions, in return form:
pub mod Laws
-- What callers use:
pub mod Callers
-- That no second answer fits the contract:
pub mod Only
