-- Laws of the functions, return by return:
pub mod Laws
pub mod Back
-- and for callers:
pub mod Callers
-- No second answer fits:
pub mod Only
