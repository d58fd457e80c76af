-- Laws of the functions, in return form:
pub mod Laws
-- How long the lines are:
pub mod Callers
-- That no second answer fits the contracts:
pub mod Only
