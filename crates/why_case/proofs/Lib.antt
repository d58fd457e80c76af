-- Laws of the functions, return by return:
pub mod Laws
-- What is told of rows that stand for tests:
pub mod Told
-- and for callers:
pub mod Callers
-- No second answer fits:
pub mod Only
