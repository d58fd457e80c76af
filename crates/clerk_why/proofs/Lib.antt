-- What is printed for a case and for the whole input, return by return:
pub mod Laws
-- What callers use:
pub mod Callers
-- That no second answer fits the contract:
pub mod Only
